use Rattle.std.proofs.Common.{◌≡◌, ◌<◌, ◌+◌, ℕ, [], ◌∷◌, None, length, length-append, get_or, sym, ap, ◌∙◌, subst, arith}
use Rattle.name_entries.specs.Entries.{entry_said}
use Rattle.name_entries.proofs.Describing.{said_more, entries_all}
use Rattle.name_entries.proofs.entries.entry_table.Goals as goal

pub loop-number-preserved : goal.loop-number-preserved
loop-number-preserved c =
    let paths = c.args.paths.now in
    let said = c.args.said.now in
    let i = c.loop-number.number in
    let entry = c.in_ok-entry.entry in
    record {
      size = ap length c.in_ok-push.ensures.items ∙ omega (arith, length-append c.loop-number.entries.items (entry ∷ []), c.loop-number.invariant.size);
      each = subst (λ all. (n : ℕ) → n < i + 1 → get_or all n None ≡ entry_said paths n (get_or said n None)) (sym c.in_ok-push.ensures.items)
          (said_more c.loop-number.entries.items entry i (λ n. entry_said paths n (get_or said n None)) c.loop-number.invariant.size c.loop-number.invariant.each c.in_ok-entry.ensures);
    }

pub returns : goal.returns
returns c = entries_all c.args.paths.now c.args.said.now c.loop-number.entries.items c.loop-number.number c.loop-number.invariant.size (omega (arith, c.loop-number-test.false)) c.loop-number.invariant.each
