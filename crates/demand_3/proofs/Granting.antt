-- Maps that are filled from one source, at any lengths, have the same entries; and entries alone decide what is stored and granted.
use Prim.Native.Nat.{ℕ, ◌+◌, ◌*◌}
use mathlib.Core.Bool.{false}
use mathlib.Core.List.{List, ◌∷◌, map}
use mathlib.Core.Path.{◌≡◌, sym, ap, ap₂, fun_ext, ◌∙◌}
use lib.ListN.{get_or}
use Rattle.arena.specs.Encoded.{page_at, super_at, leaf_runs, encoded, target}
use Rattle.arena.specs.Word.{leaf_for, page_to, block_to}
use Rattle.filling.specs.Filling.{Filling}
use Rattle.layout.specs.Size.{page, block}
use Rattle.layout.specs.Window.{data_window, super_window, devices_of}
use Rattle.layout.specs.declared.Layout.{Layout}
use Rattle.leafmap_theorems.proofs.Longer.{fills_whole}
use Rattle.leafmap_theorems.specs.Entries.{FilledWhole}
use Rattle.p2m.specs.declared.Span.TheVariants.{Base, Super}
use Rattle.window_reach.specs.Granted.{region, image_region, device_region, granted_by, granted}
use Rattle.demand_3.specs.Sources.{Source, maps_of, FilledFrom}

abbrev Same : List ℕ → List ℕ → Type 0
Same xs ys = (p : ℕ) → get_or xs p 0 ≡ get_or ys p 0

module _ (s : Source) (base sup : List ℕ) (f : FilledFrom s base sup) where
  whole : FilledWhole s.frames s.domain s.edges f.lent_base f.lent_sup
  whole =
      fills_whole s.frames s.domain s.edges f.lent_base f.lent_sup
      (ap (λ (g : Filling). g.outcome) f.fills)

  pub base_entries : Same base (maps_of s).base
  base_entries p = sym (ap (λ (g : Filling). get_or g.base p 0) f.fills) ∙ whole.same Base p

  pub sup_entries : Same sup (maps_of s).sup
  sup_entries p = sym (ap (λ (g : Filling). get_or g.sup p 0) f.fills) ∙ whole.same Super p

module _ (l : Layout) (base base' sup sup' : List ℕ) (b : Same base base') (u : Same sup sup') where
  pages : page_at l.data_pa_base base ≡ page_at l.data_pa_base base'
  pages = fun_ext (λ p. ap (λ e. leaf_for e (page_to (l.data_pa_base + p * page))) (b p))

  supers :
      super_at l.sup_pa_base l.sup_wx_exempt sup ≡ super_at l.sup_pa_base l.sup_wx_exempt sup'
  supers = fun_ext (λ p. ap (λ e. leaf_for e (block_to (l.sup_pa_base + p * block) l.sup_wx_exempt)) (u p))

  pub same_target : (i : ℕ) → target l base sup i ≡ target l base' sup' i
  unfolding encoded leaf_runs
  same_target i = rw (pages, supers)

  pub same_granted : (x : ℕ) → granted l base sup x ≡ granted l base' sup' x
  same_granted x =
      ap₂
      (λ (d r : ℕ → ℕ).
      granted_by
      (image_region l
      ∷ region (data_window l) page d false
      ∷ region (super_window l) block r l.sup_wx_exempt
      ∷ map device_region (devices_of l)) x)
      (fun_ext b)
      (fun_ext u)
