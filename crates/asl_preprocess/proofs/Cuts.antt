-- Lines in which no string and no comment begins.
use Rattle.std.proofs.Common.{◌≡◌, ℕ, zero, suc, ◌+◌, ◌-◌, ◌<◌, ◌≤◌, Bool, true, false, cond, List, [], ◌∷◌, length, take, drop, slice_index, Some, None, position, refl, sym, ap, subst, ◌∙◌, arith}
use Rattle.std.specs.Prelude.{◌==◌, ◌&&◌, not, nat_lt}
use Rattle.std.specs.List.{prefix_len, position_or_len}
use Rattle.std.specs.Str.{bytes_eq}
use Rattle.std.proofs.lemmas.Bool.{eqb-true}
use Rattle.std.proofs.lemmas.List.{drop_all}
use Rattle.std.proofs.lemmas.List.Sums.{position_or_len_is}
use Rattle.memchr.specs.Find.{IsFirstByte, is_byte3}
use Rattle.iasl_messages.specs.Cut.{without_cr}
use Rattle.asl_fragments.specs.Fragments.{is_plain, open_behind, fragments, ends_in_comment, without_comments}
use Rattle.asl_directives.specs.Forms.{include_line}
use Rattle.asl_fragments.proofs.FragmentLaws.{no_fragments}
use Rattle.asl_fragments.proofs.Skips.{plain_run}
use Rattle.asl_preprocess.specs.Cuts.{IsPlainBelow}
use Rattle.asl_preprocess.proofs.Quotes.{plain_asks_nothing}

-- ---- the first LF, `"` or `/`

is_lf : (x : ℕ) → (x == 10) ≡ true → is_byte3 10 34 47 x ≡ true
is_lf x e = subst (λ m. is_byte3 10 34 47 m ≡ true) (sym (eqb-true x 10 e)) refl

is_quote : (x : ℕ) → (x == 34) ≡ true → is_byte3 10 34 47 x ≡ true
is_quote x e = subst (λ m. is_byte3 10 34 47 m ≡ true) (sym (eqb-true x 34 e)) refl

is_slash : (x : ℕ) → (x == 47) ≡ true → is_byte3 10 34 47 x ≡ true
is_slash x e = subst (λ m. is_byte3 10 34 47 m ≡ true) (sym (eqb-true x 47 e)) refl

no_lf : (x : ℕ) → ¬ (is_byte3 10 34 47 x ≡ true) → (x == 10) ≡ false
no_lf x h = by (x == 10) refl
  where
    by : (t : Bool) → (x == 10) ≡ t → t ≡ false
    by true e = absurd (h (is_lf x e))
    by false e = refl

none_plain : (x : ℕ) → ¬ (is_byte3 10 34 47 x ≡ true) → is_plain x ≡ true
none_plain x h = by (x == 34) (x == 47) refl refl
  where
    by : (q s : Bool) → (x == 34) ≡ q → (x == 47) ≡ s → (not q && not s) ≡ true
    by true s eq es = absurd (h (is_quote x eq))
    by false true eq es = absurd (h (is_slash x es))
    by false false eq es = refl

pub place_within : (text : List ℕ) (n : ℕ) → IsFirstByte (is_byte3 10 34 47) text (Some n) → n < length text
place_within text n h = h.0.high

pub place_plain : (text : List ℕ) (n : ℕ) → IsFirstByte (is_byte3 10 34 47) text (Some n) → IsPlainBelow n text
place_plain text n h = λ k lt. none_plain (slice_index text k) (h.0.before k (omega arith) lt)

pub place_of_lf : (text : List ℕ) (n : ℕ) → IsFirstByte (is_byte3 10 34 47) text (Some n) → slice_index text n ≡ 10 → position (λ c. c == 10) text ≡ Some n
place_of_lf text n h e =
    let within : n < length text = h.0.high in
    let le : n ≤ length text = omega arith in
    let is : position_or_len (λ c. c == 10) text ≡ n = position_or_len_is (λ c. c == 10) text n 0 le (λ k lt. no_lf (slice_index text k) (h.0.before k (omega arith) lt)) (λ lt. ap (λ c. c == 10) e) in
    found (position_or_len (λ c. c == 10) text) is within
  where
    found : (m : ℕ) → m ≡ n → n < length text → cond (nat_lt m (length text)) (Some m) None ≡ Some n
    found m e lt = grind arith

-- ---- plain lines

all_plain : (text : List ℕ) → IsPlainBelow (length text) text → prefix_len is_plain text ≡ length text
all_plain [] h = refl
all_plain (b ∷ bs) h =
    let rest : prefix_len is_plain bs ≡ length bs = all_plain bs (λ k lt. h (suc k) (omega arith)) in
    ap (λ t. cond t (1 + prefix_len is_plain bs) 0) (h 0 (omega arith)) ∙ omega arith

plain_closes : (text : List ℕ) → prefix_len is_plain text ≡ length text → ends_in_comment false text ≡ false
unfolding ends_in_comment
plain_closes [] e = ap (open_behind false) (no_fragments false [] refl)
plain_closes (b ∷ bs) e =
    let n : ℕ = length (b ∷ bs) in
    plain_run false n (b ∷ bs) (sym e) (omega arith) ∙ ap (λ r. open_behind false (fragments false r)) (drop_all n (b ∷ bs) (omega arith)) ∙ ap (open_behind false) (no_fragments false [] refl)

plain_front : (n : ℕ) (text : List ℕ) → IsPlainBelow n text → IsPlainBelow (length (take n text)) (take n text)
plain_front zero text h = λ k lt. absurd (omega arith)
plain_front (suc n) [] h = λ k lt. absurd (omega arith)
plain_front (suc n) (b ∷ bs) h = λ k lt. at (plain_front n bs (λ j less. h (suc j) (omega arith))) k lt
  where
    at : IsPlainBelow (length (take n bs)) (take n bs) → (k : ℕ) → k < length (b ∷ take n bs) → is_plain (slice_index (b ∷ take n bs) k) ≡ true
    at more zero lt = h 0 (omega arith)
    at more (suc k) lt = more k (omega arith)

plain_without_cr : (line : List ℕ) → IsPlainBelow (length line) line → IsPlainBelow (length (without_cr line)) (without_cr line)
plain_without_cr line h = by (bytes_eq (drop (length line - 1) line) (13 ∷ []))
  where
    by : (t : Bool) → IsPlainBelow (length (cond t (take (length line - 1) line) line)) (cond t (take (length line - 1) line) line)
    by true = plain_front (length line - 1) line (λ k lt. h k (omega arith))
    by false = h

pub plain_line : (n : ℕ) (text line : List ℕ) → IsPlainBelow n text → line ≡ without_cr (take n text) → ends_in_comment false line ≡ false
plain_line n text line h e =
    ap (ends_in_comment false) e ∙ plain_closes (without_cr (take n text)) (all_plain (without_cr (take n text)) (plain_without_cr (take n text) (plain_front n text h)))

pub plain_line_asks_nothing : (n : ℕ) (text line : List ℕ) → IsPlainBelow n text → line ≡ without_cr (take n text) → include_line (without_comments false line) ≡ None
plain_line_asks_nothing n text line h e = ap (λ t. include_line (without_comments false t)) e ∙ plain_asks_nothing (without_cr (take n text)) (plain_without_cr (take n text) (plain_front n text h))
