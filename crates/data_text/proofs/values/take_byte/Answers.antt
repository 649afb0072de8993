use Rattle.std.proofs.Common.{◌∷◌, sym, ap, ◌∙◌}
use Rattle.data_text.specs.declared.values.Pair.TheVariants.{Done}
use Rattle.data_text.specs.Values.{with_first, bytes_at}
use Rattle.data_text.proofs.Pairs.{push_pair}
use Rattle.data_text.proofs.values.take_byte.Goals as goal

pub returns-in_ok-push-in-Half : goal.returns-in_ok-push-in-Half
returns-in_ok-push-in-Half c = λ rest.
    push_pair c.args.bytes.now.items c.push.new.self.items c.in-Some.whole (bytes_at c.args.pair (c.args.byte ∷ rest)) (bytes_at Done rest) c.in_ok-push-in-Half.ensures.items
    (ap (λ p. bytes_at p (c.args.byte ∷ rest)) c.in-Half.is ∙ ap (λ b. with_first b (bytes_at Done rest)) (sym c.byte_of.ensures ∙ c.in-Some.is))
