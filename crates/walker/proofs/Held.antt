-- A walker owns what its two references own together (`shuts`, `opens`): the slice at one lifetime, the six addresses at another.
-- Assumes nothing.
use mathlib.Core.Path.{◌≡◌, refl}
use Prim.Native.Nat.{ℕ}
use mathlib.Core.List.{List, [], ◌∷◌}
use lib.ListN.{length}
use seplogic.Ra.Ura.{Ura}
use mir.Syntax.{named}
use mir.Val.{Val, vptr, vstruct}
use base.Logic.{ent}
use base.Fml.{Lft, Fml}
use types.Logic.{Logic, sem}
use contract.Lifetimes.{Lfts}
use types.Kit.{‵, given, ◌$◌, ◌∵◌, !, qed, use1, learn, done}
use denote.RattleType.{RattleType, owns}
use denote.Laws.{Is}
use denote.Builtin.{u64}
use denote.Array.{Array}
use denote.Ref.{Bor, ShrRef}
use denote.Signature.{named_lft}
use denote.Slice.{slice_val, ShrSlice}
use denote.Struct.At.{spelled}
use denote.Struct.Declared.{Declared}
use denote.Struct.Laws as LL
use denote.Struct.Rest.{all_own, own_open, own_shut}
use denote.Struct.Values.{Values}
use Rattle.layout.specs.Size.{table_count}
use Rattle.walker.specs.declared.Walker.{Walker}
use Rattle.walker.specs.contracts.Walker as T
use Rattle.walker.proofs.Walker.TheLaws as T'

-- the types of the two fields as parameters have them, and their machine values
abbrev pub Words : Lft → RattleType
Words κ = ShrSlice (named 0) κ u64

abbrev pub Addresses : Lft → RattleType
Addresses κ = ShrRef (named 1) κ (Array u64 table_count)

abbrev pub words_val : Bor (List ℕ) → Val
words_val s = slice_val s.ref_ptr (length s.now)

abbrev pub addresses_val : Bor (List ℕ) → Val
addresses_val t = vptr t.ref_ptr.0 t.ref_ptr.1

-- the struct's type, its description and its laws, over the signature's lifetimes
abbrev pub B : Lfts 2 → RattleType
B κs = T.the_row (named_lft 2 0 tt κs) (named_lft 2 1 tt κs)

abbrev pub D : Lfts 2 → Declared
D κs = T.the_type (named_lft 2 0 tt κs) (named_lft 2 1 tt κs)

abbrev pub L : (κs : Lfts 2) → LL.Laws (D κs)
L κs = T'.the_laws (named_lft 2 0 tt κs) (named_lft 2 1 tt κs)

abbrev pub held : Bor (List ℕ) → Bor (List ℕ) → Walker
held s t = record { words = s; tables = t }

-- what the two fields own
abbrev pub Fields : Lfts 2 → Bor (List ℕ) → Bor (List ℕ) → Fml
Fields κs s t = owns (Words κs.0 ∷ Addresses κs.1.0 ∷ []) (s, (t, tt)) (words_val s ∷ [], (addresses_val t ∷ [], tt))

-- the relation of a walker, from its fields'
pub is_held : (κs : Lfts 2) (s t : Bor (List ℕ)) → Is (Words κs.0) s (words_val s ∷ [])
    → Is (Addresses κs.1.0) t (addresses_val t ∷ []) → Is (B κs) (held s t) (T'.lowered (held s t) ∷ [])
is_held κs s t p q = ((words_val s ∷ [], (addresses_val t ∷ [], tt)), (refl, (p, (q, tt))))

module _ {M : Type 1} {𝓤 : Ura M} (𝓛 : Logic 𝓤) (κs : Lfts 2) where
  pub shuts : (s t : Bor (List ℕ)) → ent 𝓤 (sem 𝓛 (Fields κs s t)) (sem 𝓛 ((B κs).own_val (held s t) (T'.lowered (held s t) ∷ [])))
  shuts s t = own_shut 𝓛 (D κs) (L κs) (s, (t, tt))

  pub opens : (d : Walker) (u : Val) → ent 𝓤 (sem 𝓛 ((B κs).own_val d (u ∷ []))) (sem 𝓛 (Fields κs d.words d.tables))
  opens d u =
      let vd : Values (D κs).parts = (d.words, (d.tables, tt)) in
      qed 𝓛 (‵ ((B κs).own_val d (u ∷ [])) ∷ []) ∵
      use1 𝓛 (given (u ∷ [] ≡ vstruct (spelled (D κs).parts (L κs) vd) ∷ []) (‵ (all_own (D κs).parts (L κs) vd)))
      (own_open 𝓛 (D κs) (L κs) vd u) $ learn ! (λ _. done !)
