use Rattle.std.proofs.Common.{◌≡◌, ◌<◌, ◌+◌, ℕ, [], ◌∷◌, None, length, length-append, get_or, sym, ap, ◌∙◌, subst, arith}
use Rattle.name_entries.specs.Entries.{described_by}
use Rattle.name_entries.proofs.Describing.{said_more}
use Rattle.name_entries.proofs.description.descriptions.Goals as goal

pub loop-number-preserved : goal.loop-number-preserved
loop-number-preserved g c =
    let paths = c.args.facts.now.index.paths in
    let i = c.loop-number.number in
    record {
      size = ap length c.in_ok-push.ensures.items ∙ omega (arith, length-append c.loop-number.said.items (c.describe.result ∷ []), c.loop-number.invariant.size);
      each = λ p placed nodes flagged. subst (λ said. (n : ℕ) → n < i + 1 → get_or said n None ≡ described_by nodes g.whole p (get_or paths n [])) (sym c.in_ok-push.ensures.items)
          (said_more c.loop-number.said.items c.describe.result i (λ n. described_by nodes g.whole p (get_or paths n [])) c.loop-number.invariant.size (c.loop-number.invariant.each p placed nodes flagged) (c.describe.ensures p placed nodes flagged));
    }
