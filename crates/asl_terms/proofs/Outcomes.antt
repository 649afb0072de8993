-- What comes of an expression where a value is asked for.
use Rattle.std.proofs.Common.{◌≡◌, ℕ, ap, sym, ◌∙◌}
use Rattle.iasl_messages.specs.declared.place.Place.{Place}
use Rattle.acpi_values.specs.declared.width.Width.{Width}
use Rattle.asl_words.specs.declared.operator.Slot.{Slot}
use Rattle.asl_terms.specs.declared.work.Outcome.{Outcome}
use Rattle.asl_terms.specs.declared.work.Outcome.TheVariants as outcome
use Rattle.term_plans.specs.Plans.{Plan, an_integer}
use Rattle.asl_terms.specs.Terms.{fine, refused, come_to, evaluated}

pub come_stays : (width : Width) (s : Slot) (place : Place) (o : Outcome) (p q : Plan) → p ≡ q → o ≡ outcome.Stays → come_to o place q ≡ evaluated width s place q → evaluated width s place p ≡ fine p
come_stays width s place o p q same e f = ap (evaluated width s place) same ∙ sym f ∙ ap (λ o. come_to o place q) e ∙ ap fine (sym same)

pub come_number : (width : Width) (s : Slot) (place : Place) (o : Outcome) (p q : Plan) (n : ℕ) → p ≡ q → o ≡ outcome.Number n → come_to o place q ≡ evaluated width s place q → evaluated width s place p ≡ fine (an_integer n)
come_number width s place o p q n same e f = ap (evaluated width s place) same ∙ sym f ∙ ap (λ o. come_to o place q) e

pub come_fault : (width : Width) (s : Slot) (place : Place) (o : Outcome) (p q : Plan) (n : ℕ) → p ≡ q → o ≡ outcome.Fault n → come_to o place q ≡ evaluated width s place q → evaluated width s place p ≡ refused n place
come_fault width s place o p q n same e f = ap (evaluated width s place) same ∙ sym f ∙ ap (λ o. come_to o place q) e
