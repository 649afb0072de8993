use Rattle.std.proofs.Common.{◌≡◌, ℕ, suc, ◌+◌, length, Some, sym, ap, ◌∙◌, arith}
use Rattle.term_plans.specs.Plans.{plan_of}
use Rattle.term_plans.proofs.Terms.{text_term, fill_term}
use Rattle.type_checks.specs.Sizes.{bytes_alone}
use Rattle.type_checks.proofs.Listing.{no_bytes_alone}
use Rattle.type_checks.proofs.size.bytes_alone.Goals as goal

pub returns-in-Text : goal.returns-in-Text
returns-in-Text c =
    let longer : length c.as_bytes.result.now + 1 ≡ suc (length c.in-Text.text) = omega (arith, ap length c.as_bytes.ensures) in
    ap (λ (n : ℕ). Some n) longer ∙ sym (ap bytes_alone (ap plan_of c.in-Text.is ∙ text_term c.in-Text.text))

pub returns-in-Fill : goal.returns-in-Fill
returns-in-Fill c =
    let same : length c.as_bytes-in-Fill.result.now ≡ length c.in-Fill.bytes = ap length c.as_bytes-in-Fill.ensures in
    ap (λ (n : ℕ). Some n) same ∙ sym (ap bytes_alone (ap plan_of c.in-Fill.is ∙ fill_term c.in-Fill.bytes _))

pub returns-in_default : goal.returns-in_default
returns-in_default c = sym (no_bytes_alone c.args.term.now c.in_default.not-Text c.in_default.not-Fill)
