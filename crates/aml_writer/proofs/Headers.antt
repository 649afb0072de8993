-- A text of the header is put before zeros that fill its field.
use Rattle.std.proofs.Common.{inl, inr, ◌≡◌, ℕ, ◌-◌, ◌≤◌, List, ◌++◌, length, min, take, replicate, sym, ap, ◌∙◌, arith, append_assoc}
use Rattle.std.proofs.lemmas.List.{length-take-le, take_all, take-replicate}
use Rattle.std.proofs.lemmas.Bool.{cases_lt}
use Rattle.aml_code.specs.Header.{filled}

-- as much of a text as there is room for, over zeros
pub filled_put : (text : List ℕ) (count cut_at : ℕ) (given zeros out1 out2 rest : List ℕ) → count ≤ 8 → cut_at ≡ min (length text) count → given ≡ take cut_at text → zeros ≡ take (count - length given) (replicate 8 0) → out1 ≡ zeros ++ rest → out2 ≡ given ++ out1 → out2 ≡ filled count text ++ rest
filled_put text count cut_at given zeros out1 out2 rest le ec eg' ez e1 e2 =
    let eg : given ≡ take (min (length text) count) text = eg' ∙ ap (λ n. take n text) ec in
    let cut = length-take-min text count in
    let shown = front_of text count in
    let long : length given ≡ min (length text) count = ap length eg ∙ cut in
    let left : count - length given ≡ count - length text = omega (arith, long) in
    let none : zeros ≡ replicate (count - length text) 0 = ez ∙ ap (λ n. take n (replicate 8 0)) left ∙ take-replicate (count - length text) 8 0 (omega (arith, le)) in
    e2 ∙ ap (λ bs. bs ++ out1) (eg ∙ shown) ∙ ap (λ bs. take count text ++ bs) (e1 ∙ ap (λ bs. bs ++ rest) none) ∙ sym (append_assoc (take count text) (replicate (count - length text) 0) rest)
  where
    length-take-min : (text : List ℕ) (count : ℕ) → length (take (min (length text) count) text) ≡ min (length text) count
    length-take-min text count = length-take-le (min (length text) count) text (omega arith)

    front_of : (text : List ℕ) (count : ℕ) → take (min (length text) count) text ≡ take count text
    front_of text count =
        elim (cases_lt count (length text)) [
          | inl few ↦ let same : min (length text) count ≡ count = omega (arith, few) in ap (λ n. take n text) same
          | inr many ↦ let same : min (length text) count ≡ length text = omega (arith, many) in ap (λ n. take n text) same ∙ take_all (length text) text (omega arith) ∙ sym (take_all count text (omega (arith, many)))
        ]
