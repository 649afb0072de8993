-- Lines worked out by computation.
use Rattle.std.proofs.Common.{◌≡◌, false, [], ◌∷◌, codes, refl}
use Rattle.asl_fragments.specs.Fragments.{fragment_of_slash, fragment_of, fragments_behind, fragments}
use Rattle.asl_macros.specs.declared.context.Within.TheVariants.{InLine, InCondition}
use Rattle.asl_macros.specs.History.{History, Defines, Undefines}
use Rattle.asl_macros.specs.Replacement.{text_with_values, value_of, replaced}

-- the latest first
abbrev some : History
some = Undefines (codes "C") ∷ Defines (codes "B") (codes "A defined C") ∷ Defines (codes "C") (codes "3") ∷ Defines (codes "A") (codes "B") ∷ []

a_line : replaced InLine some false (codes "A \"A\" C /*A*/ A1") ≡ codes "A defined C \"A\" C /*A*/ A1"
unfolding replaced text_with_values value_of fragments fragments_behind fragment_of fragment_of_slash
a_line = refl

a_condition : replaced InCondition (Defines (codes "C") (codes "3") ∷ some) false (codes "A||C||defined ( C )") ≡ codes "A defined C||3||defined ( C )"
unfolding replaced text_with_values value_of fragments fragments_behind fragment_of fragment_of_slash
a_condition = refl
