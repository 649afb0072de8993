use Rattle.std.proofs.Common.{ℕ, ◌≡◌, ◌+◌, ◌<◌, ◌++◌, ◌∷◌, [], List, length, map, take, get_or, arith, ap, sym, ◌∙◌}
use Rattle.std.proofs.lemmas.List.{map-append, take_more, take_more_set}
use Rattle.std.specs.Char.{to_ascii_uppercase}
use Rattle.std.proofs.Math.ListN.{set, length-set}
use Rattle.iasl_ports.proofs.list.inline_uppercase.Goals as goal

one_more : (own bytes : List ℕ) (i x : ℕ) → i < length own → i < length bytes → x ≡ to_ascii_uppercase (get_or bytes i 0)
    → take i own ≡ map to_ascii_uppercase (take i bytes) → take (i + 1) (set own i x) ≡ map to_ascii_uppercase (take (i + 1) bytes)
one_more own bytes i x within below is so =
    take_more_set own i x within
    ∙ ap (λ front. front ++ x ∷ []) so
    ∙ ap (λ y. map to_ascii_uppercase (take i bytes) ++ y ∷ []) is
    ∙ sym (map-append to_ascii_uppercase (take i bytes) (get_or bytes i 0 ∷ []))
    ∙ ap (map to_ascii_uppercase) (sym (take_more bytes i 0 below))

pub loop-index-preserved : goal.loop-index-preserved
loop-index-preserved c = record {
  size = omega (arith, length-set {A = ℕ}, c.loop-index.invariant.size);
  front = one_more _ _ _ _ (omega (arith, c.loop-index.invariant.size)) c.loop-index-test.true c.to_ascii_uppercase.ensures.value c.loop-index.invariant.front;
}
