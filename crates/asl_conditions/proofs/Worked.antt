-- Conditions worked out by computation.
use Rattle.std.proofs.Common.{◌≡◌, [], ◌∷◌, codes, Some, None, refl}
use Rattle.asl_fragments.specs.Fragments.{fragment_of_slash, fragment_of, fragments_behind, fragments}
use Rattle.asl_macros.specs.History.{History, Defines}
use Rattle.asl_macros.specs.Replacement.{text_with_values, value_of, replaced}
use Rattle.asl_conditions.specs.Operators.{pass, passes}
use Rattle.asl_conditions.specs.Tokens.{one_byte, two_bytes, cut_of, tokens_behind}
use Rattle.asl_conditions.specs.Reading.{step, run}
use Rattle.asl_conditions.specs.Condition.{condition_of}

abbrev some : History
some = Defines (codes "A") (codes "7") ∷ []

a_sum : condition_of some (codes "1 + 2 * A - (B || !defined ( B ))") ≡ Some 14
unfolding condition_of replaced text_with_values value_of fragments fragments_behind fragment_of fragment_of_slash tokens_behind cut_of one_byte two_bytes run step passes pass
a_sum = refl

a_shift : condition_of some (codes "1 << 64 == 0 && 0x10>>2 == 04") ≡ Some 1
unfolding condition_of replaced text_with_values value_of fragments fragments_behind fragment_of fragment_of_slash tokens_behind cut_of one_byte two_bytes run step passes pass
a_shift = refl

a_fault : condition_of some (codes "0 && 1 / 0") ≡ None
unfolding condition_of replaced text_with_values value_of fragments fragments_behind fragment_of fragment_of_slash tokens_behind cut_of one_byte two_bytes run step passes pass
a_fault = refl
