use Rattle.std.proofs.Common.{◌≡◌, ◌+◌, [], ◌∷◌, length, is_some, ap, ◌∙◌, length-append, arith}
use Rattle.descriptor_checks.proofs.Noting.{noted_next}
use Rattle.descriptor_checks.proofs.forget.described_paths.Goals as goal

pub loop-number-preserved : goal.loop-number-preserved
loop-number-preserved c =
    let inv = c.loop-number.invariant in
    let pushed = c.in_ok-push.ensures.items in record {
      size = let longer : length c.push.new.self.items ≡ length c.loop-number.flags.items + 1 = ap length pushed ∙ length-append c.loop-number.flags.items (c.is_some.result ∷ []) in omega (arith, longer, inv.size);
      noted = noted_next c.loop-number.flags.items c.push.new.self.items c.args.table.now c.loop-number.number c.is_some.result inv.size pushed (c.is_some.ensures ∙ ap is_some c.entry-named.ensures) inv.noted;
    }
