use Rattle.std.proofs.Common.{◌≡◌, ℕ, List, ◌-◌, ◌+◌, ◌<◌, length, arith, subst, ap, ◌∙◌, string_bytes}
use Rattle.std.specs.Prelude.{◌||◌}
use Rattle.iasl_ports.specs.Fetched.{same_name}
use Rattle.table_outputs.specs.Noted.{is_noted}
use Rattle.table_outputs.proofs.NameLaws.{name_noted, found_here, passed_here}
use Rattle.table_outputs.proofs.names.first_in_use.Goals as goal

pub loop-i-preserved-then-branch : goal.loop-i-preserved-then-branch
loop-i-preserved-then-branch c =
    let i = c.loop-i.i in
    let j = c.loop-i.i - 1 in
    let step : j + 1 ≡ i = omega (arith, c.loop-i-test.true) in
    let lt : j < length c.args.names.now = omega (arith, c.loop-i-test.true, c.loop-i.auto.i) in
    let old = is_noted c.loop-i.noted (λ key. key.items) in
    let new = is_noted c.note.new.noted (λ key. key.items) in
    let x = c.index-names-i.result in
    let before = c.in_ok-note.ensures.before ∙ ap old c.as_bytes.ensures.value in
    let more = subst (λ bytes. (name : List ℕ) → new name ≡ (old name || same_name bytes name)) c.as_bytes.ensures.value c.in_ok-note.ensures.noted in
    record {
      noted = name_noted c.args.files.now (λ name. string_bytes name.now) c.args.names.now i j x old new step lt c.index-names-i.is more c.loop-i.invariant.noted;
      found = found_here c.args.files.now (λ name. string_bytes name.now) c.args.names.now i j x c.in_ok-note.field-0 old step lt c.index-names-i.is c.if-branch.true before c.loop-i.invariant.noted;
    }

pub loop-i-preserved : goal.loop-i-preserved
loop-i-preserved c =
    let i = c.loop-i.i in
    let j = c.loop-i.i - 1 in
    let step : j + 1 ≡ i = omega (arith, c.loop-i-test.true) in
    let lt : j < length c.args.names.now = omega (arith, c.loop-i-test.true, c.loop-i.auto.i) in
    let old = is_noted c.loop-i.noted (λ key. key.items) in
    let new = is_noted c.note.new.noted (λ key. key.items) in
    let x = c.index-names-i.result in
    let before = c.in_ok-note.ensures.before ∙ ap old c.as_bytes.ensures.value in
    let more = subst (λ bytes. (name : List ℕ) → new name ≡ (old name || same_name bytes name)) c.as_bytes.ensures.value c.in_ok-note.ensures.noted in
    record {
      noted = name_noted c.args.files.now (λ name. string_bytes name.now) c.args.names.now i j x old new step lt c.index-names-i.is more c.loop-i.invariant.noted;
      found = passed_here c.args.files.now (λ name. string_bytes name.now) c.args.names.now i j x c.in_ok-note.field-0 old _ step lt c.index-names-i.is c.if-branch.false before c.loop-i.invariant.noted c.loop-i.invariant.found;
    }
