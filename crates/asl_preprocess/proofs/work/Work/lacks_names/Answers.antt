use Rattle.std.proofs.Common.{◌≡◌, Bool, true, false, refl}
use Rattle.std.specs.Prelude.{not}
use Rattle.asl_preprocess.proofs.OwnName.{stays_without}
use Rattle.asl_preprocess.proofs.work.Work.lacks_names.Goals as goal

none : (b : Bool) → not b ≡ true → b ≡ false
none true e = absurd cc
none false e = refl

pub returns-then-not-self : goal.returns-then-not-self
returns-then-not-self c = λ is state in_comment shows.
    stays_without state.history in_comment c.args.text.now.whole.now (shows.alone c.if-not-self.true) (c.args.text.now.lacks (none c.args.text.now.names_own is))
