use Rattle.std.proofs.Common.{◌≡◌, ℕ, List, [], ◌∷◌, ◌++◌, refl, sym, ap, ◌∙◌}
use Rattle.std.specs.Prelude.{Some, None, if◌then◌else◌}
use Rattle.iasl_messages.specs.declared.message.Message.{Message}
use Rattle.iasl_messages.specs.declared.place.Place.{Place}
use Rattle.term_plans.specs.Places.{fault_at}
use Rattle.region_checks.specs.Regions.{fault_told}
use Rattle.region_checks.proofs.Joins.{right_nil}
use Rattle.region_checks.proofs.check.field_errors.Goals as goal

named : (message : Message) (place : Place) (name : List ℕ) → message ≡ record { number = 6072; place = place; name = name } → name ≡ [] → message ≡ fault_at 6072 place
named message place name e is = e ∙ ap (λ (n : List ℕ). record { number = 6072; place = place; name = n }) is

pub returns-in_ok-push : goal.returns-in_ok-push
returns-in_ok-push c =
    c.in_ok-push.ensures.ok ∙ ap (λ m. c.args.out.now ++ m ∷ []) (named _ c.args.place c.new.result refl c.new.ensures)
    ∙ ap (λ ms. c.args.out.now ++ ms) (ap (λ b. fault_told c.args.place (if b then Some (0, 6072) else None)) (sym c.if-is_wider.true) ∙ sym (c.is_wider.ensures c.args.place))

pub returns-else-is_wider : goal.returns-else-is_wider
returns-else-is_wider c =
    sym (right_nil c.args.out.now) ∙ ap (λ ms. c.args.out.now ++ ms) (ap (λ b. fault_told c.args.place (if b then Some (0, 6072) else None)) (sym c.if-is_wider.false) ∙ sym (c.is_wider.ensures c.args.place))
