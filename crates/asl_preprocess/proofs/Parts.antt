-- The fronts and the ends of a text, and what stands in it.
use Rattle.std.proofs.Common.{◌≡◌, ℕ, ◌+◌, ◌-◌, ◌<◌, ◌≤◌, inl, inr, Bool, true, false, cond, List, [], ◌∷◌, length, take, drop, slice_index, Some, None, position, refl, sym, ap, subst, ◌∙◌, arith}
use Rattle.std.specs.Prelude.{◌==◌, nat_lt}
use Rattle.std.specs.List.{position_or_len}
use Rattle.std.specs.Str.{bytes_eq}
use Rattle.std.proofs.lemmas.Bool.{cases_lt}
use Rattle.std.proofs.lemmas.List.{length-take, length-drop, take_min, take-take, drop-drop, drop_all}
use Rattle.std.proofs.lemmas.List.Sums.{position_or_len_is}
use Rattle.memchr.specs.Find.{IsFirstByte, is_byte}
use Rattle.iasl_messages.specs.Cut.{without_cr}
use Rattle.asl_preprocess.specs.Cuts.{IsFront, IsEnd, StandsAt}

-- ---- fronts

pub front_is : (n : ℕ) (text : List ℕ) → IsFront (take n text) text
front_is n text = sym (ap (λ k. take k text) (length-take n text) ∙ take_min n text)

without_cr_front : (n : ℕ) (text : List ℕ) → IsFront (without_cr (take n text)) text
without_cr_front n text = by (bytes_eq (drop (length (take n text) - 1) (take n text)) (13 ∷ []))
  where
    by : (t : Bool) → IsFront (cond t (take (length (take n text) - 1) (take n text)) (take n text)) text
    by true = subst (λ l. IsFront l text) (sym (take-take (length (take n text) - 1) n text (omega (arith, length-take n text)))) (front_is (length (take n text) - 1) text)
    by false = front_is n text

pub line_front : (n : ℕ) (text line : List ℕ) → line ≡ without_cr (take n text) → IsFront line text
line_front n text line e = subst (λ l. IsFront l text) (sym e) (without_cr_front n text)

-- ---- ends

end_is : (n : ℕ) (text : List ℕ) → IsEnd (drop n text) text
end_is n text = elim (cases_lt n (length text)) [
  | inl below ↦ let e : n ≡ length text - length (drop n text) = omega (arith, length-drop n text) in ap (λ k. drop k text) e
  | inr behind ↦ drop_all n text behind ∙ sym (drop_all (length text - length (drop n text)) text (omega (arith, length-drop n text)))
]

pub end_at : (n : ℕ) (text rest : List ℕ) → rest ≡ drop n text → IsEnd rest text
end_at n text rest e = subst (λ r. IsEnd r text) (sym e) (end_is n text)

pub whole_end : (text : List ℕ) → IsEnd text text
whole_end text = end_at 0 text text refl

pub end_within : (rest text : List ℕ) → IsEnd rest text → length rest ≤ length text
end_within rest text e = omega (arith, ap length e, length-drop (length text - length rest) text)

pub end_of_end : (rest mid text : List ℕ) → IsEnd rest mid → IsEnd mid text → IsEnd rest text
end_of_end rest mid text e f =
    let n : ℕ = length mid - length rest in
    let m : ℕ = length text - length mid in
    end_at (m + n) text rest (e ∙ ap (drop n) f ∙ drop-drop n m text)

pub front_of_end : (line mid text : List ℕ) → IsFront line mid → IsEnd mid text → StandsAt line (length text - length mid) text
front_of_end line mid text e f = e ∙ ap (take (length line)) f

-- ---- the first LF

no_lf : (t : Bool) → ¬ (t ≡ true) → t ≡ false
no_lf true h = absurd (h refl)
no_lf false h = refl

-- a text without an LF
pub lacks_lf : (text : List ℕ) → IsFirstByte (is_byte 10) text None → position (λ c. c == 10) text ≡ None
lacks_lf text h = none (position_or_len (λ c. c == 10) text) (position_or_len_is (λ c. c == 10) text (length text) 0 (omega arith) (λ k lt. no_lf (slice_index text k == 10) (h k (omega arith) lt)) (λ lt. absurd (omega arith)))
  where
    none : (m : ℕ) → m ≡ length text → cond (nat_lt m (length text)) (Some m) None ≡ None
    none m e = grind arith

-- the place of the first LF
pub first_lf : (text : List ℕ) (n : ℕ) → IsFirstByte (is_byte 10) text (Some n) → position (λ c. c == 10) text ≡ Some n
first_lf text n h = some (position_or_len (λ c. c == 10) text) (position_or_len_is (λ c. c == 10) text n 0 (omega (arith, h.0.high)) (λ k lt. no_lf (slice_index text k == 10) (h.0.before k (omega arith) lt)) (λ lt. h.1)) h.0.high
  where
    some : (m : ℕ) → m ≡ n → n < length text → cond (nat_lt m (length text)) (Some m) None ≡ Some n
    some m e lt = grind arith

pub first_lf_within : (text : List ℕ) (n : ℕ) → IsFirstByte (is_byte 10) text (Some n) → n < length text
first_lf_within text n h = h.0.high
