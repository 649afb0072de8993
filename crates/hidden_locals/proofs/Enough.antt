-- The test of whether there are Locals enough.
use Rattle.std.proofs.Common.{◌≡◌, true, arith}
use Rattle.std.proofs.lemmas.Bool.Decides.{nat_tests}
use Rattle.asl_tree.specs.Tree.{Trees}
use Rattle.hidden_locals.specs.Switches.{IsEnough, is_enough}

pub enough_holds : (body : Trees) → is_enough body ≡ true → IsEnough body
enough_holds body e = grind (arith, nat_tests, e)

pub enough_tested : (body : Trees) → IsEnough body → is_enough body ≡ true
enough_tested body h = grind (arith, nat_tests, h)
