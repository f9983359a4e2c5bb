-- What a store of many words leaves, word by word.
use Rattle.std.specs.Prelude.{ℕ, ◌<◌, List, ◌≡◌, length, get_or}

-- each word at exit is `after` of its index and of the word that stood there
pub record Over (after : ℕ → ℕ → ℕ) (old new : List ℕ) : Type 0 where
  pub long : length new ≡ length old
  pub word : (i : ℕ) → i < length old → get_or new i 0 ≡ after i (get_or old i 0)
