-- `translate` meets its contract: an input of more than 39 bits faults.
use mathlib.Core.Path.{◌∙◌}
use borrow.Author.Tests.{lt-ltb, le-ltb}
use Rattle.manual.specs.Translation.{translation}
use Rattle.judge_translation.proofs.translate.Goals as goal

pub returns-then-ipa-ge-ADDRESSABLE : goal.returns-then-ipa-ge-ADDRESSABLE
unfolding translation
returns-then-ipa-ge-ADDRESSABLE c = rw (le-ltb _ _ c.if-ipa-ge-ADDRESSABLE.true)

pub returns : goal.returns
unfolding translation
returns c = c.level1.ensures ∙ rw (lt-ltb _ _ c.if-ipa-ge-ADDRESSABLE.false)
