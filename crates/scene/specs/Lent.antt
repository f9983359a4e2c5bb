-- A scene in the lists that are lent for it.
use Rattle.std.specs.Prelude.{◌≡◌}
use Rattle.scene.specs.Scene.{Scene, scene}
use Rattle.scene.specs.declared.Scene.{Scene as Lent}

-- what they hold
abbrev pub held : Lent → Scene
held s = scene s.numbers.now s.base.now s.sup.now

-- they are the same lists, whatever they hold
abbrev pub SameLists : Lent → Lent → Type 0
SameLists s t =
    (t.numbers.ghost_name ≡ s.numbers.ghost_name) × (t.base.ghost_name ≡ s.base.ghost_name) × (t.sup.ghost_name ≡ s.sup.ghost_name)
