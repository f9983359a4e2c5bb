-- The page's theorem: what is granted is reached by walks, and the runs of what is granted are the longest.
use Rattle.std.specs.Prelude.{Option, Some, None}
use Prim.Native.Nat.{ℕ, suc, ◌^◌, ◌≤◌, ◌<◌}
use mathlib.Core.Bool.{Bool, true, false}
use mathlib.Core.List.{List}
use mathlib.Core.Path.{◌≡◌, refl, sym, ap, subst, ◌∙◌}
use native.Mathlib.Omega.{arith}
use lib.Dec.{ltb}
use lib.ListN.{replicate}
use borrow.Author.Tests.{ltb-true, ltb-false}
use Rattle.accepted_facts.proofs.Guarded.{guarded_facts, arena_guarded_facts}
use Rattle.accepted_facts.specs.Accepted.{Accepted}
use Rattle.annex.proofs.Placed.{placed, grants}
use Rattle.annex.proofs.Slots.{past_windows}
use Rattle.annex.specs.Annex.{address_count, annex_runs, annex_page}
use Rattle.annex.specs.Windows.{granted_over}
use Rattle.annex_walks.proofs.Below.{output_below, not_rx}
use Rattle.annex_walks.specs.Annex.{Exactly, AnnexOfGrants, OfWords, AnnexOfTargets, AnnexOfEncoded}
use Rattle.demand_2.proofs.Demand2.{demand_2_whole, demand_2_encoded}
use Rattle.demand_2.specs.Demand2.{addresses_of, Reaches}
use Rattle.descent.specs.Descent.{Words, words_of}
use Rattle.layout.specs.Size.{input_limit, board_limit, arena_length}
use Rattle.layout.specs.Window.{windows_of}
use Rattle.layout.specs.declared.Layout.{Layout}
use Rattle.manual.specs.Translation.{allowed}
use Rattle.reach.specs.declared.Reach.{Reach}
use Rattle.refusal.proofs.All.{all_map}
use Rattle.refusal.specs.All.{All}
use Rattle.runs.specs.declared.Run.{Run}
use Rattle.runs_theorems.proofs.LongestRuns.{runs_are_longest, one_list_of_runs, runs_tell}
use Rattle.runs_theorems.proofs.Reach.{reached≢nothing}
use Rattle.runs_theorems.proofs.Reading.{pages_are_read, one_reading}
use Rattle.runs_theorems.specs.LongestRuns.{run_reach, Leads, Longest, LongestRuns}
use Rattle.runs_theorems.specs.Reading.{Spelled}
use Rattle.walk.specs.Walk.{walk_of}
use Rattle.window_reach.specs.Granted.{granted}

-- what addresses reach is the same: so are their runs
exactly_of : (f g : ℕ → Option Reach) (rs : List Run) → ((x : ℕ) → g x ≡ f x) → LongestRuns f rs → Exactly g rs
exactly_of f g rs same l =
    let runs : LongestRuns g rs =
    record {
      covers = λ x. same x ∙ l.covers x;
      once = l.once;
      proper = l.proper;
      ascending = l.ascending;
      longest = all_map (Longest f) (Longest g)
          (λ r t. record {
            end = λ e. t.end (sym (same (suc r.last)) ∙ e);
            front = λ x e leads. t.front x e (subst (λ a. Leads a r) (same x) leads);
          })
          rs
          l.longest;
    } in
    record { runs = runs; alone = λ ts t. one_list_of_runs g ts rs t runs }

module _ (l : Layout) (base sup : List ℕ) (facts : Accepted board_limit l) where
  abbrev f : ℕ → Option Reach
  f = granted l base sup

  past_limit : (x : ℕ) → input_limit ≤ x → f x ≡ None
  past_limit x h =
      ap (λ (g : ℕ → Option Reach). g x) (grants l base sup)
      ∙ past_windows base sup l.sup_wx_exempt (windows_of l) (placed l facts).each x h

  granted_there : (x : ℕ) (a : Reach) → f x ≡ Some a → granted_over base sup l.sup_wx_exempt (windows_of l) x ≡ Some a
  granted_there x a e = sym (ap (λ (g : ℕ → Option Reach). g x) (grants l base sup)) ∙ e

  longest : LongestRuns f (annex_runs l base sup)
  unfolding annex_runs
  longest = runs_are_longest f address_count (λ x h. past_limit x (omega (arith, h)))

  spelled : All Spelled (annex_runs l base sup)
  spelled = all_map (λ r. (r.first ≤ r.last) × ((x : ℕ) → r.first ≤ x → x ≤ r.last → f x ≡ run_reach r x)) Spelled whole
      (annex_runs l base sup)
      (runs_tell f (annex_runs l base sup) longest)
    where
      whole : (r : Run) → (r.first ≤ r.last) × ((x : ℕ) → r.first ≤ x → x ≤ r.last → f x ≡ run_reach r x) → Spelled r
      whole r t =
          let at_last = t.1 r.last t.0 (omega arith) in
          let there = granted_there r.last _ at_last in
          let sited = (placed l facts).each in
          record {
            proper = t.0;
            addresses = go (ltb r.last input_limit) refl at_last;
            outputs = output_below base sup l.sup_wx_exempt r.last _ (windows_of l) sited there;
            access = not_rx base sup l.sup_wx_exempt r.last _ (windows_of l) sited there;
          }
        where
          go : (b : Bool) → ltb r.last input_limit ≡ b → f r.last ≡ run_reach r r.last → r.last < 16 ^ 10
          go true e at_last = let h : r.last < input_limit = ltb-true r.last input_limit e in omega (arith, h)
          go false e at_last = absurd (reached≢nothing _ (sym at_last ∙ past_limit r.last (ltb-false r.last input_limit e)))

pub annex_of_grants : AnnexOfGrants
annex_of_grants l base sup let_by =
    let facts = (guarded_facts board_limit base sup l let_by).layout in
    let runs = longest l base sup facts in
    let page = pages_are_read (annex_runs l base sup) (spelled l base sup facts) in
    record {
      grants = record { runs = runs; alone = λ ts t. one_list_of_runs (granted l base sup) ts (annex_runs l base sup) t runs };
      page = page;
      no_others = λ ts t. one_reading (annex_page l base sup) ts (annex_runs l base sup) t page;
    }

of_words :
    (l : Layout) (base sup : List ℕ) (words : Words) → Accepted board_limit l →
    ((x : ℕ) → Reaches l base sup words x) → OfWords l base sup words
of_words l base sup words facts reaches =
    let runs = longest l base sup facts in
    record {
      walks = exactly_of (granted l base sup) (walk_of (addresses_of l) (λ left. words)) (annex_runs l base sup) (λ x. (reaches x).walks) runs;
      translates = λ m a x. (reaches x).translates m a ∙ ap (allowed a) (runs.covers x);
    }

pub annex_of_targets : AnnexOfTargets
annex_of_targets l base sup words let_by same =
    of_words l base sup words (guarded_facts board_limit base sup l let_by).layout (demand_2_whole l base sup words let_by same)

pub annex_of_encoded : AnnexOfEncoded
annex_of_encoded l base sup new e =
    let g = (arena_guarded_facts board_limit (replicate arena_length 0) base sup l (sym e.answer)).1 in
    of_words l base sup (words_of new) g.layout (demand_2_encoded l base sup new e)
