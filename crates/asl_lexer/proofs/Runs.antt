-- A run of bytes that a line is read over at once comes to what its bytes come to one after another.
use Rattle.std.proofs.Common.{◌≡◌, ℕ, suc, ◌+◌, ◌*◌, ◌-◌, ◌^◌, ◌<◌, ◌≤◌, min, Bool, true, false, cond, List, [], ◌∷◌, ◌++◌, Ok, length, map, take, drop, drop-drop, get_or, refl, sym, ap, subst, ◌∙◌, inl, inr, append_assoc, arith}
use Rattle.std.specs.Prelude.{◌&&◌, ◌||◌, ◌==◌, not}
use Rattle.std.specs.List.{prefix_len, take_while}
use Rattle.std.specs.Char.{digit_value, is_digit, to_ascii_uppercase}
use Rattle.std.proofs.lemmas.Bool.{le-ltb}
use Rattle.std.proofs.lemmas.Bool.Decides.{leb_tells}
use Rattle.std.proofs.lemmas.List.{append-nil, take-append-drop, take_more, drop_all}
use Rattle.std.proofs.lemmas.List.Sums.{fold-append, prefix_len_stops, take_while-cons}
use Rattle.std.proofs.lemmas.List.Folds.{length-prefix_len}
use Rattle.std.proofs.Math.Seq.{drop-cons, take-length}
use Rattle.iasl_messages.specs.declared.place.Place.{Place}
use Rattle.asl_lexer.specs.declared.class.Class.{Class}
use Rattle.asl_lexer.specs.declared.class.Class.TheVariants as c
use Rattle.asl_lexer.specs.declared.class.Radix.{Radix}
use Rattle.asl_lexer.specs.declared.class.Radix.TheVariants.{Decimal, Hexadecimal}
use Rattle.asl_lexer.specs.declared.token.Token.{Token}
use Rattle.asl_lexer.specs.declared.mode.Mode.{Mode}
use Rattle.asl_lexer.specs.declared.mode.Mode.TheVariants as m
use Rattle.asl_lexer.specs.Class.{class_of, base_of, takes_equals, doubles, shifts}
use Rattle.asl_lexer.specs.Scan.{MarkedByte, end_at, column_after, with_name, with_number, with_string, with_symbol, begin, step, scan, is_plain, more, plain_by, text_by, zero_by, prefix_by}
use Rattle.asl_lexer.specs.Marks.{mark_at, marks_from}
use Rattle.asl_lexer.specs.Cut.{in_name_class, begins_name_class, begins_sign_class, behind_number_class, are_two, are_three, Stops, EndsName, digit_in, behind_number}
use Rattle.asl_lexer.specs.Runs.{is_whitespace, in_word, begins_word, in_string, adjoins_number, in_comment, in_block, in_block_class, is_alone, is_dot, is_dot_class, number_of, AtBreak, Passes}
use Rattle.asl_lexer.proofs.Steps.{scan_goes}
use Rattle.asl_lexer.proofs.Bits.{both, Stops-all, more_grows, x_no_digit}
use Rattle.asl_lexer.proofs.Complete.{two_by, begin_is, begins, begins_by, begin_name, name_in, names_end, number_small, number_ends, text_in, line_in, block_out, to_sign, sign_ends, whitespace_by}

abbrev pub Every : (ℕ → Bool) → List ℕ → Type 0
Every p [] = Unit {0}
Every p (b ∷ bs) = (p b ≡ true) × Every p bs

-- ---- the bytes of a run, and those behind it

every_prefix : (p : ℕ → Bool) (bs : List ℕ) → Every p (take_while p bs)
every_prefix p [] = tt
every_prefix p (b ∷ bs) = subst (Every p) (sym (take_while-cons p b bs)) (by (p b) refl (every_prefix p bs)) where
  by : (t : Bool) → p b ≡ t → Every p (take_while p bs) → Every p (cond t (b ∷ take_while p bs) [])
  by true e each = (e, each)
  by false e each = tt

parts : (n : ℕ) (bs : List ℕ) → bs ≡ take n bs ++ drop n bs
parts n bs = sym (take-append-drop n bs)

-- the byte behind a run
abbrev pub next : (ℕ → Bool) → List ℕ → ℕ
next p bs = get_or bs (prefix_len p bs) 0

behind_is : (p : ℕ → Bool) (bs : List ℕ) → prefix_len p bs < length bs → drop (prefix_len p bs) bs ≡ next p bs ∷ drop (suc (prefix_len p bs)) bs
behind_is p bs h = drop-cons bs (prefix_len p bs) 0 h

-- ---- at the end of a line

break_is : class_of 10 ≡ c.Break
unfolding class_of
break_is = refl

class_at : (b : ℕ) → b ≡ 10 → class_of b ≡ c.Break
class_at b e = ap class_of e ∙ break_is

ends_name : (rest : List MarkedByte) → AtBreak rest → EndsName rest
ends_name [] e = tt
ends_name (x ∷ xs) e = (ap in_name_class (class_at x.byte e), λ dot. absurd (let no : c.Break ≡ c.Dot = sym (class_at x.byte e) ∙ dot in cc))

no_digit_at : (base : ℕ) (rest : List MarkedByte) → base ≤ 36 → AtBreak rest → Stops (digit_in base) rest
no_digit_at base [] small e = tt
no_digit_at base (x ∷ xs) small e = ap (λ b. is_digit b base) e ∙ le-ltb 36 base small

no_letter_at : (rest : List MarkedByte) → AtBreak rest → Stops behind_number rest
no_letter_at [] e = tt
no_letter_at (x ∷ xs) e = ap behind_number_class (class_at x.byte e)

every_all : (p : ℕ → Bool) (bs : List ℕ) → prefix_len p bs ≡ length bs → Every p bs
every_all p [] e = tt
every_all p (b ∷ bs) e = by (p b) refl (every_all p bs) e where
  by : (t : Bool) → p b ≡ t → (prefix_len p bs ≡ length bs → Every p bs) → cond t (1 + prefix_len p bs) 0 ≡ length (b ∷ bs) → (p b ≡ true) × Every p bs
  by true is below f = (is, below (omega (arith, f)))
  by false is below f = absurd (omega (arith, f))

none_marked : (file line column : ℕ) (bs : List ℕ) → bs ≡ [] → marks_from file line column bs ≡ []
unfolding marks_from
none_marked file line column bs e = ap (marks_from file line column) e

-- ---- runs that change nothing but the mode

module _ (file line : ℕ) (rest : List MarkedByte) where
  abbrev marked : ℕ → List ℕ → List MarkedByte
  marked column bs = marks_from file line column bs ++ rest

  one : (column b : ℕ) (bs : List ℕ) → marked column (b ∷ bs) ≡ mark_at file line column b ∷ marked (column + 1) bs
  unfolding marks_from
  one column b bs = refl

  -- a mode that each byte leaves as it is
  stays : (p : ℕ → Bool) (mode : Mode) (done : List Token) → ((at : Place) (b : ℕ) → p b ≡ true → step mode at b done ≡ Ok (mode, done))
      → (w v : List ℕ) (column : ℕ) → Every p w → scan (marked column (w ++ v)) mode done ≡ scan (marked (column + length w) v) mode done
  stays p mode done goes [] v column each = ap (λ n. scan (marked n v) mode done) (let e : column ≡ column + 0 = omega arith in e)
  stays p mode done goes (b ∷ w) v column each =
      ap (λ ms. scan ms mode done) (one column b (w ++ v))
      ∙ scan_goes (mark_at file line column b) (marked (column + 1) (w ++ v)) mode mode done done (goes (mark_at file line column b).place b each.0)
      ∙ stays p mode done goes w v (column + 1) each.1
      ∙ ap (λ n. scan (marked n v) mode done) (let e : column + 1 + length w ≡ column + length (b ∷ w) = omega arith in e)

  -- the letters and digits of a word
  words : (from : Place) (path : Bool) (done : List Token) (w v : List ℕ) (column : ℕ) (text : List ℕ) → Every in_word w
      → scan (marked column (w ++ v)) (m.Name from path text) done ≡ scan (marked (column + length w) v) (m.Name from path (text ++ map to_ascii_uppercase w)) done
  words from path done [] v column text each =
      ap (λ n. scan (marked n v) (m.Name from path text) done) (let e : column ≡ column + 0 = omega arith in e)
      ∙ ap (λ us. scan (marked (column + 0) v) (m.Name from path us) done) (sym (append-nil text))
  words from path done (b ∷ w) v column text each =
      ap (λ ms. scan ms (m.Name from path text) done) (one column b (w ++ v))
      ∙ scan_goes (mark_at file line column b) (marked (column + 1) (w ++ v)) (m.Name from path text) (m.Name from path (text ++ to_ascii_uppercase b ∷ [])) done done
      (name_in (class_of b) from path text (mark_at file line column b).place b done each.0)
      ∙ words from path done w v (column + 1) (text ++ to_ascii_uppercase b ∷ []) each.1
      ∙ ap (λ n. scan (marked n v) (m.Name from path ((text ++ to_ascii_uppercase b ∷ []) ++ map to_ascii_uppercase w)) done) (let e : column + 1 + length w ≡ column + length (b ∷ w) = omega arith in e)
      ∙ ap (λ us. scan (marked (column + length (b ∷ w)) v) (m.Name from path us) done) (append_assoc text (to_ascii_uppercase b ∷ []) (map to_ascii_uppercase w))

  -- the plain bytes of a string
  strings : (from : Place) (done : List Token) (w v : List ℕ) (column : ℕ) (text : List ℕ) → Every in_string w
      → scan (marked column (w ++ v)) (m.Text from text) done ≡ scan (marked (column + length w) v) (m.Text from (text ++ w)) done
  strings from done [] v column text each =
      ap (λ n. scan (marked n v) (m.Text from text) done) (let e : column ≡ column + 0 = omega arith in e)
      ∙ ap (λ us. scan (marked (column + 0) v) (m.Text from us) done) (sym (append-nil text))
  strings from done (b ∷ w) v column text each =
      let plain = both _ (is_plain b) each.0 in
      let at = (mark_at file line column b).place in
      ap (λ ms. scan ms (m.Text from text) done) (one column b (w ++ v))
      ∙ scan_goes (mark_at file line column b) (marked (column + 1) (w ++ v)) (m.Text from text) (m.Text from (text ++ b ∷ [])) done done
      (text_in (class_of b) from text at b done plain.0 ∙ ap (λ t. plain_by t from text at b done) plain.1)
      ∙ strings from done w v (column + 1) (text ++ b ∷ []) each.1
      ∙ ap (λ n. scan (marked n v) (m.Text from ((text ++ b ∷ []) ++ w)) done) (let e : column + 1 + length w ≡ column + length (b ∷ w) = omega arith in e)
      ∙ ap (λ us. scan (marked (column + length (b ∷ w)) v) (m.Text from us) done) (append_assoc text (b ∷ []) w)

  -- the digits of a number
  numbers : (radix : Radix) (from : Place) (done : List Token) (w v : List ℕ) (column value end : ℕ) → Every (λ b. is_digit b (base_of radix)) w → number_of (base_of radix) value w < 2 ^ 64 → end ≡ column_after column 0
      → scan (marked column (w ++ v)) (m.Number from radix value end) done ≡ scan (marked (column + length w) v) (m.Number from radix (number_of (base_of radix) value w) (column_after (column + length w) 0)) done
  numbers radix from done [] v column value end each small is =
      ap (λ n. scan (marked column v) (m.Number from radix value n) done) is
      ∙ ap (λ n. scan (marked n v) (m.Number from radix value (column_after n 0)) done) (let e : column ≡ column + 0 = omega arith in e)
  numbers radix from done (b ∷ w) v column value end each small is =
      let now : more value radix b < 2 ^ 64 = omega (arith, small, grows radix w (more value radix b)) in
      ap (λ ms. scan ms (m.Number from radix value end) done) (one column b (w ++ v))
      ∙ scan_goes (mark_at file line column b) (marked (column + 1) (w ++ v)) (m.Number from radix value end) (m.Number from radix (more value radix b) (end_at (mark_at file line column b).place)) done done
      (number_small from radix value end (mark_at file line column b) done each.0 now)
      ∙ numbers radix from done w v (column + 1) (more value radix b) (column_after column 1) each.1 small (let e : column_after column 1 ≡ column_after (column + 1) 0 = ap (λ n. min n (2 ^ 32 - 1)) (let f : column + 1 ≡ column + 1 + 0 = omega arith in f) in e)
      ∙ ap (λ n. scan (marked n v) (m.Number from radix (number_of (base_of radix) (more value radix b) w) (column_after n 0)) done) (let e : column + 1 + length w ≡ column + length (b ∷ w) = omega arith in e)
    where
      grows : (radix : Radix) (w : List ℕ) (value : ℕ) → value ≤ number_of (base_of radix) value w
      grows radix [] value = omega arith
      grows radix (b ∷ w) value = omega (arith, more_grows radix value b, grows radix w (more value radix b))

  -- ---- whole tokens

  word_is : (b s : ℕ) (w vs : List ℕ) (column : ℕ) (done : List Token) → begins_word b ≡ true → Every in_word w → in_word s ≡ false → (class_of s ≡ c.Dot → ⊥)
      → scan (marked column (b ∷ w ++ s ∷ vs)) m.Between done
      ≡ scan (marked (column + suc (length w)) (s ∷ vs)) m.Between (with_name done false (mark_at file line column b).place (map to_ascii_uppercase (b ∷ w)))
  unfolding marks_from
  word_is b s w vs column done begin_is each stop no_dot =
      let at = (mark_at file line column b).place in
      begins_by (m.Name at false (to_ascii_uppercase b ∷ [])) (mark_at file line column b) (marked (column + 1) (w ++ s ∷ vs)) done done (begin_name (class_of b) at b done begin_is)
      ∙ words at false done w (s ∷ vs) (column + 1) (to_ascii_uppercase b ∷ []) each
      ∙ names_end at false (map to_ascii_uppercase (b ∷ w)) (marked (column + 1 + length w) (s ∷ vs)) done (stop, λ dot. absurd (no_dot dot))
      ∙ ap (λ n. scan (marked n (s ∷ vs)) m.Between (with_name done false at (map to_ascii_uppercase (b ∷ w)))) (let e : column + 1 + length w ≡ column + suc (length w) = omega arith in e)

  word_end_is : (b : ℕ) (w : List ℕ) (column : ℕ) (done : List Token) → begins_word b ≡ true → Every in_word w → AtBreak rest
      → scan (marked column (b ∷ w)) m.Between done ≡ scan rest m.Between (with_name done false (mark_at file line column b).place (map to_ascii_uppercase (b ∷ w)))
  unfolding marks_from
  word_end_is b w column done begin_is each ends =
      let at = (mark_at file line column b).place in
      begins_by (m.Name at false (to_ascii_uppercase b ∷ [])) (mark_at file line column b) (marked (column + 1) w) done done (begin_name (class_of b) at b done begin_is)
      ∙ ap (λ us. scan (marked (column + 1) us) (m.Name at false (to_ascii_uppercase b ∷ [])) done) (sym (append-nil w))
      ∙ words at false done w [] (column + 1) (to_ascii_uppercase b ∷ []) each
      ∙ names_end at false (map to_ascii_uppercase (b ∷ w)) rest done (ends_name rest ends)

  single_is : (b n : ℕ) (bs : List ℕ) (column : ℕ) (done : List Token) → begins_sign_class (class_of b) ≡ true → are_two b n ≡ false
      → scan (marked column (b ∷ n ∷ bs)) m.Between done ≡ scan (marked (column + 1) (n ∷ bs)) m.Between (with_symbol done (mark_at file line column b).place (b ∷ []))
  unfolding marks_from
  single_is b n bs column done is apart =
      to_sign (mark_at file line column b) (marked (column + 1) (n ∷ bs)) done is
      ∙ sign_ends (mark_at file line column b).place b (marked (column + 1) (n ∷ bs)) done apart

  two_is : (b n : ℕ) (bs : List ℕ) (column : ℕ) (done : List Token) → begins_sign_class (class_of b) ≡ true → are_two b n ≡ true → Stops (λ o. are_three b n o.byte) (marked (column + 1 + 1) bs)
      → scan (marked column (b ∷ n ∷ bs)) m.Between done ≡ scan (marked (column + 2) bs) m.Between (with_symbol done (mark_at file line column b).place (b ∷ n ∷ []))
  unfolding marks_from
  two_is b n bs column done is two no_third =
      let done' = with_symbol done (mark_at file line column b).place (b ∷ n ∷ []) in
      to_sign (mark_at file line column b) (marked (column + 1) (n ∷ bs)) done is
      ∙ two_by ((n == 61) && takes_equals b) ((n == b) && doubles b) (mark_at file line column b) (mark_at file line (column + 1) n) (marked (column + 1 + 1) bs) done refl refl two no_third
      ∙ ap (λ k. scan (marked k bs) m.Between done') (let e : column + 1 + 1 ≡ column + 2 = omega arith in e)

  no_third : (t u : Bool) → u ≡ false → (t && u) ≡ false
  no_third true u e = e
  no_third false u e = refl

  double_is : (b n : ℕ) (bs : List ℕ) (column : ℕ) (done : List Token) → begins_sign_class (class_of b) ≡ true → are_two b n ≡ true → ((n == b) && shifts b) ≡ false
      → scan (marked column (b ∷ n ∷ bs)) m.Between done ≡ scan (marked (column + 2) bs) m.Between (with_symbol done (mark_at file line column b).place (b ∷ n ∷ []))
  double_is b n bs column done is two no_shift =
      two_is b n bs column done is two (Stops-all (λ o. are_three b n o.byte) (marked (column + 1 + 1) bs) (λ o. no_third (o.byte == 61) ((n == b) && shifts b) no_shift))

  -- two characters before one that they do not go on with
  apart_is : (b n o : ℕ) (bs : List ℕ) (column : ℕ) (done : List Token) → begins_sign_class (class_of b) ≡ true → are_two b n ≡ true → (o == 61) ≡ false
      → scan (marked column (b ∷ n ∷ o ∷ bs)) m.Between done ≡ scan (marked (column + 2) (o ∷ bs)) m.Between (with_symbol done (mark_at file line column b).place (b ∷ n ∷ []))
  unfolding marks_from
  apart_is b n o bs column done is two apart = two_is b n (o ∷ bs) column done is two (ap (λ t. t && ((n == b) && shifts b)) apart)

  string_is : (q e : ℕ) (w vs : List ℕ) (column : ℕ) (done : List Token) → class_of q ≡ c.Quote → Every in_string w → class_of e ≡ c.Quote
      → scan (marked column (q ∷ w ++ e ∷ vs)) m.Between done
      ≡ scan (marked (column + (length w + 2)) vs) m.Between (with_string done (mark_at file line column q).place (column_after column (length w + 2)) w)
  unfolding marks_from
  string_is q e w vs column done opens each closes =
      let at = (mark_at file line column q).place in
      let behind = (mark_at file line (column + 1 + length w) e) in
      begins c.Quote (m.Text at []) (mark_at file line column q) (marked (column + 1) (w ++ e ∷ vs)) done done opens refl
      ∙ strings at done w (e ∷ vs) (column + 1) [] each
      ∙ scan_goes behind (marked (column + 1 + length w + 1) vs) (m.Text at w) m.Between done (with_string done at (end_at behind.place) w) (ap (λ k. text_by k at w behind.place e done) closes)
      ∙ ap (λ n. scan (marked n vs) m.Between (with_string done at (min n (2 ^ 32 - 1)) w)) (let f : column + 1 + length w + 1 ≡ column + (length w + 2) = omega arith in f)

  alone_is : (b : ℕ) (bs : List ℕ) (column : ℕ) (done : List Token) → begins_sign_class (class_of b) ≡ true → is_alone b ≡ true
      → scan (marked column (b ∷ bs)) m.Between done ≡ scan (marked (column + 1) bs) m.Between (with_symbol done (mark_at file line column b).place (b ∷ []))
  unfolding marks_from
  alone_is b bs column done is alone =
      to_sign (mark_at file line column b) (marked (column + 1) bs) done is
      ∙ sign_ends (mark_at file line column b).place b (marked (column + 1) bs) done (Stops-all (λ n. are_two b n.byte) (marked (column + 1) bs) (λ n. two (takes_equals b) (doubles b) (n.byte == 61) (n.byte == b) alone))
    where
      two : (t u x y : Bool) → (not t && not u) ≡ true → ((x && t) || (y && u)) ≡ false
      two true u x y h = absurd cc
      two false true x y h = absurd cc
      two false false true true h = refl
      two false false true false h = refl
      two false false false true h = refl
      two false false false false h = refl

-- ---- over all the bytes that are left of a line

parted : (n : ℕ) (p : ℕ → Bool) (bs : List ℕ) → n ≡ prefix_len p bs → n < length bs → bs ≡ take_while p bs ++ next p bs ∷ drop (suc n) bs
parted n p bs is h = parts (prefix_len p bs) bs ∙ ap (λ us. take_while p bs ++ us) (behind_is p bs (subst (λ k. k < length bs) is h)) ∙ ap (λ k. take_while p bs ++ next p bs ∷ drop (suc k) bs) (sym is)

passes_stays : (p : ℕ → Bool) (mode : Mode) (done : List Token) → ((at : Place) (b : ℕ) → p b ≡ true → step mode at b done ≡ Ok (mode, done)) → (at : Place) (bs : List ℕ) → Passes at bs (prefix_len p bs) mode done mode done
passes_stays p mode done goes at bs = λ rest ends.
    ap (λ us. scan (marks_from at.file at.line at.column us ++ rest) mode done) (parts (prefix_len p bs) bs)
    ∙ stays at.file at.line rest p mode done goes (take_while p bs) (drop (prefix_len p bs) bs) at.column (every_prefix p bs)
    ∙ ap (λ n. scan (marks_from at.file at.line (at.column + n) (drop (prefix_len p bs) bs) ++ rest) mode done) (length-prefix_len p bs)

pub passes_none : (at : Place) (bs : List ℕ) (mode : Mode) (done : List Token) → Passes at bs 0 mode done mode done
passes_none at bs mode done = λ rest ends. ap (λ n. scan (marks_from at.file at.line n bs ++ rest) mode done) (let e : at.column ≡ at.column + 0 = omega arith in e)

-- a run behind a run
pub passes_on : (at here : Place) (bs : List ℕ) (i n : ℕ) (mode : Mode) (first mid last : List Token) → here ≡ record { file = at.file; line = at.line; column = at.column + i }
    → Passes at bs i mode first mode mid → Passes here (drop i bs) n mode mid mode last → Passes at bs (i + n) mode first mode last
passes_on at here bs i n mode first mid last is before after = λ rest ends.
    before rest ends
    ∙ subst (λ p. scan (marks_from p.file p.line p.column (drop i bs) ++ rest) mode mid ≡ scan (marks_from p.file p.line (p.column + n) (drop n (drop i bs)) ++ rest) mode last) is (after rest ends)
    ∙ ap (λ us. scan (marks_from at.file at.line (at.column + i + n) us ++ rest) mode last) (drop-drop n i bs)
    ∙ ap (λ k. scan (marks_from at.file at.line k (drop (i + n) bs) ++ rest) mode last) (let e : at.column + i + n ≡ at.column + (i + n) = omega arith in e)

whitespace_goes : (at : Place) (b : ℕ) (done : List Token) → is_whitespace b ≡ true → step m.Between at b done ≡ Ok (m.Between, done)
unfolding begin
whitespace_goes at b done is = whitespace_by (class_of b) at b done is

pub passes_whitespace : (at : Place) (bs : List ℕ) (done : List Token) → Passes at bs (prefix_len is_whitespace bs) m.Between done m.Between done
passes_whitespace at bs done = passes_stays is_whitespace m.Between done (λ at b is. whitespace_goes at b done is) at bs

pub passes_comment : (at : Place) (bs : List ℕ) (done : List Token) → Passes at bs (prefix_len in_comment bs) m.Line done m.Line done
passes_comment at bs done = passes_stays in_comment m.Line done (λ at b is. line_in (class_of b) done is) at bs

pub passes_block : (from at : Place) (bs : List ℕ) (done : List Token) → Passes at bs (prefix_len in_block bs) (m.Block from) done (m.Block from) done
passes_block from at bs done = passes_stays in_block (m.Block from) done (λ at b is. block_out (class_of b) from done (apart (class_of b) is)) at bs where
  apart : (k : Class) → in_block_class k ≡ true → k ≡ c.Star → ⊥
  apart c.Star h e = absurd cc
  apart k h e = let g : in_block_class c.Star ≡ true = subst (λ j. in_block_class j ≡ true) e h in absurd cc

pub passes_alone : (at : Place) (bs : List ℕ) (done : List Token) → 0 < length bs → begins_sign_class (class_of (get_or bs 0 0)) ≡ true → is_alone (get_or bs 0 0) ≡ true → Passes at bs 1 m.Between done m.Between (with_symbol done at (get_or bs 0 0 ∷ []))
passes_alone at [] done some is alone = absurd (omega arith)
passes_alone at (b ∷ bs) done some is alone = λ rest ends. alone_is at.file at.line rest b bs at.column done is alone

pub passes_single : (at : Place) (bs : List ℕ) (done : List Token) → 1 < length bs → begins_sign_class (class_of (get_or bs 0 0)) ≡ true → are_two (get_or bs 0 0) (get_or bs 1 0) ≡ false
    → Passes at bs 1 m.Between done m.Between (with_symbol done at (get_or bs 0 0 ∷ []))
passes_single at [] done some is apart = absurd (omega arith)
passes_single at (b ∷ []) done some is apart = absurd (omega arith)
passes_single at (b ∷ n ∷ bs) done some is apart = λ rest ends. single_is at.file at.line rest b n bs at.column done is apart

pub passes_double : (at : Place) (bs : List ℕ) (done : List Token) → 1 < length bs → begins_sign_class (class_of (get_or bs 0 0)) ≡ true → are_two (get_or bs 0 0) (get_or bs 1 0) ≡ true
    → ((get_or bs 1 0 == get_or bs 0 0) && shifts (get_or bs 0 0)) ≡ false → Passes at bs 2 m.Between done m.Between (with_symbol done at (get_or bs 0 0 ∷ get_or bs 1 0 ∷ []))
passes_double at [] done some is two no_shift = absurd (omega arith)
passes_double at (b ∷ []) done some is two no_shift = absurd (omega arith)
passes_double at (b ∷ n ∷ bs) done some is two no_shift = λ rest ends. double_is at.file at.line rest b n bs at.column done is two no_shift

pub passes_shift : (at : Place) (bs : List ℕ) (done : List Token) → 2 < length bs → begins_sign_class (class_of (get_or bs 0 0)) ≡ true → are_two (get_or bs 0 0) (get_or bs 1 0) ≡ true → (get_or bs 2 0 == 61) ≡ false
    → Passes at bs 2 m.Between done m.Between (with_symbol done at (take 2 bs))
passes_shift at [] done some is two apart = absurd (omega arith)
passes_shift at (b ∷ []) done some is two apart = absurd (omega arith)
passes_shift at (b ∷ n ∷ []) done some is two apart = absurd (omega arith)
passes_shift at (b ∷ n ∷ o ∷ bs) done some is two apart = λ rest ends. apart_is at.file at.line rest b n o bs at.column done is two apart

dots : (k : Class) → is_dot_class k ≡ false → k ≡ c.Dot → ⊥
dots c.Dot h e = absurd cc
dots k h e = let g : is_dot_class c.Dot ≡ false = subst (λ j. is_dot_class j ≡ false) e h in absurd cc

in_begins : (k : Class) → begins_name_class k ≡ true → in_name_class k ≡ true
in_begins c.Letter h = refl
in_begins c.Underscore h = refl
in_begins _ h = absurd cc

prefix_cons : (p : ℕ → Bool) (b : ℕ) (bs : List ℕ) → p b ≡ true → prefix_len p (b ∷ bs) ≡ suc (prefix_len p bs)
prefix_cons p b bs is = ap (λ t. cond t (1 + prefix_len p bs) 0) is ∙ (let e : 1 + prefix_len p bs ≡ suc (prefix_len p bs) = omega arith in e)

is_space : is_whitespace 32 ≡ true
unfolding class_of
is_space = refl

four_more : (bs : List ℕ) → prefix_len is_whitespace (32 ∷ 32 ∷ 32 ∷ 32 ∷ bs) ≡ 4 + prefix_len is_whitespace bs
four_more bs =
    omega (arith, prefix_cons is_whitespace 32 (32 ∷ 32 ∷ 32 ∷ bs) is_space, prefix_cons is_whitespace 32 (32 ∷ 32 ∷ bs) is_space, prefix_cons is_whitespace 32 (32 ∷ bs) is_space, prefix_cons is_whitespace 32 bs is_space)

-- four spaces before other bytes
pub spaces_more : (bs : List ℕ) (i : ℕ) → take 4 (drop i bs) ≡ 32 ∷ 32 ∷ 32 ∷ 32 ∷ [] → prefix_len is_whitespace (drop i bs) ≡ 4 + prefix_len is_whitespace (drop (i + 4) bs)
spaces_more bs i are =
    ap (prefix_len is_whitespace) (parts 4 (drop i bs) ∙ ap (λ us. us ++ drop 4 (drop i bs)) are)
    ∙ four_more (drop 4 (drop i bs)) ∙ ap (λ us. 4 + prefix_len is_whitespace us) (drop-drop 4 i bs)

pub passes_word : (at : Place) (bs : List ℕ) (n : ℕ) (done : List Token) → 0 < length bs → begins_word (get_or bs 0 0) ≡ true → n ≡ prefix_len in_word bs → n < length bs → is_dot (get_or bs n 0) ≡ false
    → Passes at bs n m.Between done m.Between (with_name done false at (map to_ascii_uppercase (take n bs)))
passes_word at [] n done some begins is more no_dot = absurd (omega arith)
passes_word at (b ∷ bs) n done some begins is more no_dot = λ rest ends.
    let k = prefix_len in_word bs in
    let size : n ≡ suc k = is ∙ prefix_cons in_word b bs (in_begins (class_of b) begins) in
    let within : k < length bs = omega (arith, size, more) in
    let stop : in_word (next in_word bs) ≡ false = prefix_len_stops in_word bs 0 within in
    let apart : is_dot (next in_word bs) ≡ false = subst (λ i. is_dot (get_or (b ∷ bs) i 0) ≡ false) size no_dot in
    let long : suc (length (take_while in_word bs)) ≡ suc k = ap suc (length-prefix_len in_word bs) in
    subst (λ i. scan (marks_from at.file at.line at.column (b ∷ bs) ++ rest) m.Between done ≡ scan (marks_from at.file at.line (at.column + i) (drop i (b ∷ bs)) ++ rest) m.Between (with_name done false at (map to_ascii_uppercase (take i (b ∷ bs))))) (sym size)
    (ap (λ us. scan (marks_from at.file at.line at.column (b ∷ us) ++ rest) m.Between done) (parted k in_word bs refl within)
    ∙ word_is at.file at.line rest b (next in_word bs) (take_while in_word bs) (drop (suc k) bs) at.column done begins (every_prefix in_word bs) stop (λ e. dots (class_of (next in_word bs)) apart e)
    ∙ ap (λ i. scan (marks_from at.file at.line (at.column + i) (next in_word bs ∷ drop (suc k) bs) ++ rest) m.Between (with_name done false at (map to_ascii_uppercase (b ∷ take_while in_word bs)))) long
    ∙ ap (λ us. scan (marks_from at.file at.line (at.column + suc k) us ++ rest) m.Between (with_name done false at (map to_ascii_uppercase (b ∷ take_while in_word bs)))) (sym (behind_is in_word bs within)))

pub passes_word_end : (at : Place) (bs : List ℕ) (n : ℕ) (done : List Token) → 0 < length bs → begins_word (get_or bs 0 0) ≡ true → n ≡ prefix_len in_word bs → n ≡ length bs
    → Passes at bs n m.Between done m.Between (with_name done false at (map to_ascii_uppercase (take n bs)))
passes_word_end at [] n done some begins is all = absurd (omega arith)
passes_word_end at (b ∷ bs) n done some begins is all = λ rest ends.
    let size : n ≡ suc (prefix_len in_word bs) = is ∙ prefix_cons in_word b bs (in_begins (class_of b) begins) in
    let each : Every in_word bs = every_all in_word bs (omega (arith, size, all)) in
    subst (λ i. scan (marks_from at.file at.line at.column (b ∷ bs) ++ rest) m.Between done ≡ scan (marks_from at.file at.line (at.column + i) (drop i (b ∷ bs)) ++ rest) m.Between (with_name done false at (map to_ascii_uppercase (take i (b ∷ bs))))) (sym all)
    (word_end_is at.file at.line rest b bs at.column done begins each ends
    ∙ ap (λ us. scan rest m.Between (with_name done false at (map to_ascii_uppercase us))) (sym (take-length (b ∷ bs)))
    ∙ ap (λ us. scan (us ++ rest) m.Between (with_name done false at (map to_ascii_uppercase (take (length (b ∷ bs)) (b ∷ bs))))) (sym (none_marked at.file at.line (at.column + length (b ∷ bs)) (drop (length (b ∷ bs)) (b ∷ bs)) (drop_all (length (b ∷ bs)) (b ∷ bs) (omega arith)))))

-- a word that no dot follows
pub passes_any_word : (at : Place) (bs : List ℕ) (n : ℕ) (done : List Token) → 0 < length bs → begins_word (get_or bs 0 0) ≡ true → n ≡ prefix_len in_word bs → n ≤ length bs → (n < length bs → is_dot (get_or bs n 0) ≡ false)
    → Passes at bs n m.Between done m.Between (with_name done false at (map to_ascii_uppercase (take n bs)))
passes_any_word at bs n done some begins is within no_dot = elim (leb_tells (suc n) (length bs)) [
  | inl t ↦ passes_word at bs n done some begins is (omega (arith, t.1)) (no_dot (omega (arith, t.1)))
  | inr t ↦ passes_word_end at bs n done some begins is (omega (arith, t.1, within))
]

pub passes_string : (at : Place) (bs : List ℕ) (n : ℕ) (done : List Token) → 0 < length bs → class_of (get_or bs 0 0) ≡ c.Quote → n ≡ prefix_len in_string (drop 1 bs) → n < length (drop 1 bs) → class_of (get_or (drop 1 bs) n 0) ≡ c.Quote
    → Passes at bs (n + 2) m.Between done m.Between (with_string done at (column_after at.column (n + 2)) (take n (drop 1 bs)))
passes_string at [] n done some opens is more closes = absurd (omega arith)
passes_string at (b ∷ bs) n done some opens is more closes = λ rest ends.
    let k = prefix_len in_string bs in
    let within : k < length bs = subst (λ i. i < length bs) is more in
    subst (λ i. scan (marks_from at.file at.line at.column (b ∷ bs) ++ rest) m.Between done ≡ scan (marks_from at.file at.line (at.column + (i + 2)) (drop (i + 2) (b ∷ bs)) ++ rest) m.Between (with_string done at (column_after at.column (i + 2)) (take i bs))) (sym is)
    (ap (λ us. scan (marks_from at.file at.line at.column (b ∷ us) ++ rest) m.Between done) (parted k in_string bs refl within)
    ∙ string_is at.file at.line rest b (next in_string bs) (take_while in_string bs) (drop (suc k) bs) at.column done opens (every_prefix in_string bs) (subst (λ i. class_of (get_or bs i 0) ≡ c.Quote) is closes)
    ∙ ap (λ i. scan (marks_from at.file at.line (at.column + (i + 2)) (drop (suc k) bs) ++ rest) m.Between (with_string done at (column_after at.column (i + 2)) (take_while in_string bs))) (length-prefix_len in_string bs)
    ∙ ap (λ i. scan (marks_from at.file at.line (at.column + (k + 2)) (drop i (b ∷ bs)) ++ rest) m.Between (with_string done at (column_after at.column (k + 2)) (take_while in_string bs))) (let e : suc (suc k) ≡ k + 2 = omega arith in e))

-- ---- numbers

digits : (file line : ℕ) (rest : List MarkedByte) (radix : Radix) (from : Place) (b s : ℕ) (w vs : List ℕ) (column : ℕ) (done : List Token) → Every (λ d. is_digit d (base_of radix)) w → number_of (base_of radix) 0 (b ∷ w) < 2 ^ 64
    → is_digit s (base_of radix) ≡ false → adjoins_number s ≡ false
    → scan (marks_from file line (column + 1) (w ++ s ∷ vs) ++ rest) (m.Number from radix (digit_value b) (column_after column 1)) done
    ≡ scan (marks_from file line (column + suc (length w)) (s ∷ vs) ++ rest) m.Between (with_number done from (number_of (base_of radix) 0 (b ∷ w)) (column_after (column + suc (length w)) 0))
unfolding marks_from
digits file line rest radix from b s w vs column done each small stop free =
    let first : digit_value b ≡ 0 * base_of radix + digit_value b = no_front (base_of radix) (digit_value b) in
    let at : column + 1 + length w ≡ column + suc (length w) = omega arith in
    let value = number_of (base_of radix) 0 (b ∷ w) in
    ap (λ v. scan (marks_from file line (column + 1) (w ++ s ∷ vs) ++ rest) (m.Number from radix v (column_after column 1)) done) first
    ∙ numbers file line rest radix from done w (s ∷ vs) (column + 1) (0 * base_of radix + digit_value b) (column_after column 1) each small
    (ap (λ n. min n (2 ^ 32 - 1)) (let f : column + 1 ≡ column + 1 + 0 = omega arith in f))
    ∙ number_ends from radix value (column_after (column + 1 + length w) 0) (marks_from file line (column + 1 + length w) (s ∷ vs) ++ rest) done stop free
    ∙ ap (λ n. scan (marks_from file line n (s ∷ vs) ++ rest) m.Between (with_number done from value (column_after n 0))) at
  where
    no_front : (base d : ℕ) → d ≡ 0 * base + d
    no_front base d = omega arith

decimal_is : (file line : ℕ) (rest : List MarkedByte) (b s : ℕ) (w vs : List ℕ) (column : ℕ) (done : List Token) → class_of b ≡ c.Digit → Every (λ d. is_digit d 10) w → number_of 10 0 (b ∷ w) < 2 ^ 64
    → is_digit s 10 ≡ false → adjoins_number s ≡ false
    → scan (marks_from file line column (b ∷ w ++ s ∷ vs) ++ rest) m.Between done
    ≡ scan (marks_from file line (column + suc (length w)) (s ∷ vs) ++ rest) m.Between (with_number done (mark_at file line column b).place (number_of 10 0 (b ∷ w)) (column_after column (suc (length w))))
decimal_is file line rest b s w vs column done is each small stop free =
    let at = (mark_at file line column b).place in
    ap (λ ms. scan ms m.Between done) (one file line rest column b (w ++ s ∷ vs))
    ∙ begins c.Digit (m.Number at Decimal (digit_value b) (column_after column 1)) (mark_at file line column b) (marks_from file line (column + 1) (w ++ s ∷ vs) ++ rest) done done is refl
    ∙ digits file line rest Decimal at b s w vs column done each small stop free
    ∙ ap (λ n. scan (marks_from file line (column + suc (length w)) (s ∷ vs) ++ rest) m.Between (with_number done at (number_of 10 0 (b ∷ w)) (min n (2 ^ 32 - 1)))) (let e : column + suc (length w) + 0 ≡ column + suc (length w) = omega arith in e)

hexadecimal_is : (file line : ℕ) (rest : List MarkedByte) (z x b s : ℕ) (w vs : List ℕ) (column : ℕ) (done : List Token) → class_of z ≡ c.Zero → (x == 120) ≡ true → is_digit b 16 ≡ true → Every (λ d. is_digit d 16) w → number_of 16 0 (b ∷ w) < 2 ^ 64
    → is_digit s 16 ≡ false → adjoins_number s ≡ false
    → scan (marks_from file line column (z ∷ x ∷ b ∷ w ++ s ∷ vs) ++ rest) m.Between done
    ≡ scan (marks_from file line (column + (suc (length w) + 2)) (s ∷ vs) ++ rest) m.Between (with_number done (mark_at file line column z).place (number_of 16 0 (b ∷ w)) (column_after column (suc (length w) + 2)))
hexadecimal_is file line rest z x b s w vs column done is is_x is_first each small stop free =
    let at = (mark_at file line column z).place in
    let ex = mark_at file line (column + 1) x in
    let first = mark_at file line (column + 1 + 1) b in
    let same : column + 1 + 1 + suc (length w) ≡ column + (suc (length w) + 2) = omega arith in
    ap (λ ms. scan ms m.Between done) (one file line rest column z (x ∷ b ∷ w ++ s ∷ vs))
    ∙ begins c.Zero (m.Zero at) (mark_at file line column z) (marks_from file line (column + 1) (x ∷ b ∷ w ++ s ∷ vs) ++ rest) done done is refl
    ∙ ap (λ ms. scan ms (m.Zero at) done) (one file line rest (column + 1) x (b ∷ w ++ s ∷ vs))
    ∙ scan_goes ex (marks_from file line (column + 1 + 1) (b ∷ w ++ s ∷ vs) ++ rest) (m.Zero at) (m.Prefix at ex.place) done done
    (ap (λ t. zero_by t (x == 120) at ex.place x done) (x_no_digit x is_x) ∙ ap (λ u. zero_by false u at ex.place x done) is_x)
    ∙ ap (λ ms. scan ms (m.Prefix at ex.place) done) (one file line rest (column + 1 + 1) b (w ++ s ∷ vs))
    ∙ scan_goes first (marks_from file line (column + 1 + 1 + 1) (w ++ s ∷ vs) ++ rest) (m.Prefix at ex.place) (m.Number at Hexadecimal (digit_value b) (column_after (column + 1 + 1) 1)) done done
    (ap (λ t. prefix_by t at ex.place first.place b done) is_first)
    ∙ digits file line rest Hexadecimal at b s w vs (column + 1 + 1) done each small stop free
    ∙ ap (λ n. scan (marks_from file line n (s ∷ vs) ++ rest) m.Between (with_number done at (number_of 16 0 (b ∷ w)) (column_after n 0))) same
    ∙ ap (λ n. scan (marks_from file line (column + (suc (length w) + 2)) (s ∷ vs) ++ rest) m.Between (with_number done at (number_of 16 0 (b ∷ w)) (min n (2 ^ 32 - 1)))) (let e : column + (suc (length w) + 2) + 0 ≡ column + (suc (length w) + 2) = omega arith in e)

-- the same at the end of a line
digits_end : (file line : ℕ) (rest : List MarkedByte) (radix : Radix) (from : Place) (b : ℕ) (w : List ℕ) (column : ℕ) (done : List Token) → base_of radix ≤ 36 → Every (λ d. is_digit d (base_of radix)) w → number_of (base_of radix) 0 (b ∷ w) < 2 ^ 64
    → AtBreak rest
    → scan (marks_from file line (column + 1) w ++ rest) (m.Number from radix (digit_value b) (column_after column 1)) done
    ≡ scan rest m.Between (with_number done from (number_of (base_of radix) 0 (b ∷ w)) (column_after (column + suc (length w)) 0))
unfolding marks_from
digits_end file line rest radix from b w column done small_base each small ends =
    let first : digit_value b ≡ 0 * base_of radix + digit_value b = no_front (base_of radix) (digit_value b) in
    let at : column + 1 + length w ≡ column + suc (length w) = omega arith in
    let value = number_of (base_of radix) 0 (b ∷ w) in
    ap (λ v. scan (marks_from file line (column + 1) w ++ rest) (m.Number from radix v (column_after column 1)) done) first
    ∙ ap (λ us. scan (marks_from file line (column + 1) us ++ rest) (m.Number from radix (0 * base_of radix + digit_value b) (column_after column 1)) done) (sym (append-nil w))
    ∙ numbers file line rest radix from done w [] (column + 1) (0 * base_of radix + digit_value b) (column_after column 1) each small
    (ap (λ n. min n (2 ^ 32 - 1)) (let f : column + 1 ≡ column + 1 + 0 = omega arith in f))
    ∙ number_ends from radix value (column_after (column + 1 + length w) 0) rest done (no_digit_at (base_of radix) rest small_base ends) (no_letter_at rest ends)
    ∙ ap (λ n. scan rest m.Between (with_number done from value (column_after n 0))) at
  where
    no_front : (base d : ℕ) → d ≡ 0 * base + d
    no_front base d = omega arith

decimal_end_is : (file line : ℕ) (rest : List MarkedByte) (b : ℕ) (w : List ℕ) (column : ℕ) (done : List Token) → class_of b ≡ c.Digit → Every (λ d. is_digit d 10) w → number_of 10 0 (b ∷ w) < 2 ^ 64 → AtBreak rest
    → scan (marks_from file line column (b ∷ w) ++ rest) m.Between done ≡ scan rest m.Between (with_number done (mark_at file line column b).place (number_of 10 0 (b ∷ w)) (column_after column (suc (length w))))
decimal_end_is file line rest b w column done is each small ends =
    let at = (mark_at file line column b).place in
    ap (λ ms. scan ms m.Between done) (one file line rest column b w)
    ∙ begins c.Digit (m.Number at Decimal (digit_value b) (column_after column 1)) (mark_at file line column b) (marks_from file line (column + 1) w ++ rest) done done is refl
    ∙ digits_end file line rest Decimal at b w column done (omega arith) each small ends
    ∙ ap (λ n. scan rest m.Between (with_number done at (number_of 10 0 (b ∷ w)) (min n (2 ^ 32 - 1)))) (let e : column + suc (length w) + 0 ≡ column + suc (length w) = omega arith in e)

hexadecimal_end_is : (file line : ℕ) (rest : List MarkedByte) (z x b : ℕ) (w : List ℕ) (column : ℕ) (done : List Token) → class_of z ≡ c.Zero → (x == 120) ≡ true → is_digit b 16 ≡ true → Every (λ d. is_digit d 16) w → number_of 16 0 (b ∷ w) < 2 ^ 64
    → AtBreak rest
    → scan (marks_from file line column (z ∷ x ∷ b ∷ w) ++ rest) m.Between done ≡ scan rest m.Between (with_number done (mark_at file line column z).place (number_of 16 0 (b ∷ w)) (column_after column (suc (length w) + 2)))
hexadecimal_end_is file line rest z x b w column done is is_x is_first each small ends =
    let at = (mark_at file line column z).place in
    let ex = mark_at file line (column + 1) x in
    let first = mark_at file line (column + 1 + 1) b in
    ap (λ ms. scan ms m.Between done) (one file line rest column z (x ∷ b ∷ w))
    ∙ begins c.Zero (m.Zero at) (mark_at file line column z) (marks_from file line (column + 1) (x ∷ b ∷ w) ++ rest) done done is refl
    ∙ ap (λ ms. scan ms (m.Zero at) done) (one file line rest (column + 1) x (b ∷ w))
    ∙ scan_goes ex (marks_from file line (column + 1 + 1) (b ∷ w) ++ rest) (m.Zero at) (m.Prefix at ex.place) done done
    (ap (λ t. zero_by t (x == 120) at ex.place x done) (x_no_digit x is_x) ∙ ap (λ u. zero_by false u at ex.place x done) is_x)
    ∙ ap (λ ms. scan ms (m.Prefix at ex.place) done) (one file line rest (column + 1 + 1) b w)
    ∙ scan_goes first (marks_from file line (column + 1 + 1 + 1) w ++ rest) (m.Prefix at ex.place) (m.Number at Hexadecimal (digit_value b) (column_after (column + 1 + 1) 1)) done done
    (ap (λ t. prefix_by t at ex.place first.place b done) is_first)
    ∙ digits_end file line rest Hexadecimal at b w (column + 1 + 1) done (omega arith) each small ends
    ∙ ap (λ n. scan rest m.Between (with_number done at (number_of 16 0 (b ∷ w)) (min n (2 ^ 32 - 1)))) (let e : column + 1 + 1 + suc (length w) + 0 ≡ column + (suc (length w) + 2) = omega arith in e)

-- a run of digits, and the byte behind it
record Digits (base n value : ℕ) (bs : List ℕ) : Type 0 where
  size : n ≡ prefix_len (λ d. is_digit d base) bs
  worth : value ≡ number_of base 0 (take n bs)
  fits : value < 2 ^ 64
  more : n < length bs
  free : adjoins_number (get_or bs n 0) ≡ false

-- the first digit, the others, and what is behind them
record Opened (base n value b : ℕ) (bs : List ℕ) : Type 0 where
  size : n ≡ suc (prefix_len (λ d. is_digit d base) bs)
  within : prefix_len (λ d. is_digit d base) bs < length bs
  worth : value ≡ number_of base 0 (b ∷ take_while (λ d. is_digit d base) bs)
  stop : is_digit (next (λ d. is_digit d base) bs) base ≡ false
  free : adjoins_number (next (λ d. is_digit d base) bs) ≡ false

opened : (base n value b : ℕ) (bs : List ℕ) → is_digit b base ≡ true → Digits base n value (b ∷ bs) → Opened base n value b bs
opened base n value b bs is h =
    let p : ℕ → Bool = λ d. is_digit d base in
    let size : n ≡ suc (prefix_len p bs) = h.size ∙ prefix_cons p b bs is in
    let within : prefix_len p bs < length bs = omega (arith, size, h.more) in
    record {
      size = size;
      within = within;
      worth = h.worth ∙ ap (λ k. number_of base 0 (take k (b ∷ bs))) size;
      stop = prefix_len_stops p bs 0 within;
      free = subst (λ k. adjoins_number (get_or (b ∷ bs) k 0) ≡ false) size h.free;
    }

first_passes : (t : Bool) (k : ℕ) → 0 < cond t (1 + k) 0 → t ≡ true
first_passes true k h = refl
first_passes false k h = absurd (omega arith)

pub passes_decimal : (at : Place) (bs : List ℕ) (n value : ℕ) (done : List Token) → class_of (get_or bs 0 0) ≡ c.Digit → 0 < n → n ≡ prefix_len (λ d. is_digit d 10) bs → value ≡ number_of 10 0 (take n bs) → value < 2 ^ 64
    → n < length bs → adjoins_number (get_or bs n 0) ≡ false → Passes at bs n m.Between done m.Between (with_number done at value (column_after at.column n))
passes_decimal at [] n value done is some size worth fits more free = absurd (omega arith)
passes_decimal at (b ∷ bs) n value done is some size worth fits more free = λ rest ends.
    let p : ℕ → Bool = λ d. is_digit d 10 in
    let is_first : is_digit b 10 ≡ true = first_passes (is_digit b 10) (prefix_len p bs) (subst (λ i. 0 < i) size some) in
    let o = opened 10 n value b bs is_first (record { size = size; worth = worth; fits = fits; more = more; free = free }) in
    let k = prefix_len p bs in
    subst (λ v. scan (marks_from at.file at.line at.column (b ∷ bs) ++ rest) m.Between done ≡ scan (marks_from at.file at.line (at.column + n) (drop n (b ∷ bs)) ++ rest) m.Between (with_number done at v (column_after at.column n))) (sym o.worth)
    (subst (λ i. scan (marks_from at.file at.line at.column (b ∷ bs) ++ rest) m.Between done ≡ scan (marks_from at.file at.line (at.column + i) (drop i (b ∷ bs)) ++ rest) m.Between (with_number done at (number_of 10 0 (b ∷ take_while p bs)) (column_after at.column i))) (sym o.size)
    (ap (λ us. scan (marks_from at.file at.line at.column (b ∷ us) ++ rest) m.Between done) (parted k p bs refl o.within)
    ∙ decimal_is at.file at.line rest b (next p bs) (take_while p bs) (drop (suc k) bs) at.column done is (every_prefix p bs) (subst (λ v. v < 2 ^ 64) o.worth fits) o.stop o.free
    ∙ ap (λ i. scan (marks_from at.file at.line (at.column + suc i) (next p bs ∷ drop (suc k) bs) ++ rest) m.Between (with_number done at (number_of 10 0 (b ∷ take_while p bs)) (column_after at.column (suc i)))) (length-prefix_len p bs)
    ∙ ap (λ us. scan (marks_from at.file at.line (at.column + suc k) us ++ rest) m.Between (with_number done at (number_of 10 0 (b ∷ take_while p bs)) (column_after at.column (suc k)))) (sym (behind_is p bs o.within))))

pub passes_hexadecimal : (at : Place) (bs : List ℕ) (n value : ℕ) (done : List Token) → class_of (get_or bs 0 0) ≡ c.Zero → (get_or bs 1 0 == 120) ≡ true → 0 < n → n ≡ prefix_len (λ d. is_digit d 16) (drop 2 bs) → value ≡ number_of 16 0 (take n (drop 2 bs)) → value < 2 ^ 64
    → n < length (drop 2 bs) → adjoins_number (get_or (drop 2 bs) n 0) ≡ false → Passes at bs (n + 2) m.Between done m.Between (with_number done at value (column_after at.column (n + 2)))
passes_hexadecimal at [] n value done is is_x some size worth fits more free = absurd (omega arith)
passes_hexadecimal at (z ∷ []) n value done is is_x some size worth fits more free = absurd (omega arith)
passes_hexadecimal at (z ∷ x ∷ []) n value done is is_x some size worth fits more free = absurd (omega arith)
passes_hexadecimal at (z ∷ x ∷ b ∷ bs) n value done is is_x some size worth fits more free = λ rest ends.
    let p : ℕ → Bool = λ d. is_digit d 16 in
    let is_first : is_digit b 16 ≡ true = first_passes (is_digit b 16) (prefix_len p bs) (subst (λ i. 0 < i) size some) in
    let o = opened 16 n value b bs is_first (record { size = size; worth = worth; fits = fits; more = more; free = free }) in
    let k = prefix_len p bs in
    subst (λ v. scan (marks_from at.file at.line at.column (z ∷ x ∷ b ∷ bs) ++ rest) m.Between done ≡ scan (marks_from at.file at.line (at.column + (n + 2)) (drop (n + 2) (z ∷ x ∷ b ∷ bs)) ++ rest) m.Between (with_number done at v (column_after at.column (n + 2)))) (sym o.worth)
    (subst (λ i. scan (marks_from at.file at.line at.column (z ∷ x ∷ b ∷ bs) ++ rest) m.Between done ≡ scan (marks_from at.file at.line (at.column + (i + 2)) (drop (i + 2) (z ∷ x ∷ b ∷ bs)) ++ rest) m.Between (with_number done at (number_of 16 0 (b ∷ take_while p bs)) (column_after at.column (i + 2)))) (sym o.size)
    (ap (λ us. scan (marks_from at.file at.line at.column (z ∷ x ∷ b ∷ us) ++ rest) m.Between done) (parted k p bs refl o.within)
    ∙ hexadecimal_is at.file at.line rest z x b (next p bs) (take_while p bs) (drop (suc k) bs) at.column done is is_x is_first (every_prefix p bs) (subst (λ v. v < 2 ^ 64) o.worth fits) o.stop o.free
    ∙ ap (λ i. scan (marks_from at.file at.line (at.column + (suc i + 2)) (next p bs ∷ drop (suc k) bs) ++ rest) m.Between (with_number done at (number_of 16 0 (b ∷ take_while p bs)) (column_after at.column (suc i + 2)))) (length-prefix_len p bs)
    ∙ ap (λ us. scan (marks_from at.file at.line (at.column + (suc k + 2)) us ++ rest) m.Between (with_number done at (number_of 16 0 (b ∷ take_while p bs)) (column_after at.column (suc k + 2)))) (sym (behind_is p bs o.within))
    ∙ ap (λ i. scan (marks_from at.file at.line (at.column + (suc k + 2)) (drop i (z ∷ x ∷ b ∷ bs)) ++ rest) m.Between (with_number done at (number_of 16 0 (b ∷ take_while p bs)) (column_after at.column (suc k + 2)))) (let e : suc (suc (suc k)) ≡ suc k + 2 = omega arith in e)))

pub number_of-more : (base : ℕ) (ds : List ℕ) (i value d : ℕ) → i < length ds → d ≡ digit_value (get_or ds i 0) → value ≡ number_of base 0 (take i ds) → value * base + d ≡ number_of base 0 (take (i + 1) ds)
number_of-more base ds i value d h is worth =
    ap (λ v. v * base + d) worth ∙ ap (λ x. number_of base 0 (take i ds) * base + x) is
    ∙ sym (ap (number_of base 0) (take_more ds i 0 h) ∙ fold-append (λ v b. v * base + digit_value b) 0 (take i ds) (get_or ds i 0 ∷ []))

pub is_quote : (b : ℕ) → b ≡ 34 → class_of b ≡ c.Quote
unfolding class_of
is_quote b e = subst (λ n. class_of n ≡ c.Quote) (sym e) refl

-- all that is left is a run of digits
record Ended (base n value b : ℕ) (bs : List ℕ) : Type 0 where
  size : n ≡ suc (length bs)
  each : Every (λ d. is_digit d base) bs
  worth : value ≡ number_of base 0 (b ∷ bs)

all_digits : (base n value b : ℕ) (bs : List ℕ) → is_digit b base ≡ true → n ≡ prefix_len (λ d. is_digit d base) (b ∷ bs) → value ≡ number_of base 0 (take n (b ∷ bs)) → n ≡ length (b ∷ bs) → Ended base n value b bs
all_digits base n value b bs is size worth all =
    let p : ℕ → Bool = λ d. is_digit d base in
    let long : n ≡ suc (prefix_len p bs) = size ∙ prefix_cons p b bs is in
    record {
      size = omega (arith, all);
      each = every_all p bs (omega (arith, long, all));
      worth = worth ∙ ap (λ k. number_of base 0 (take k (b ∷ bs))) all ∙ ap (number_of base 0) (take-length (b ∷ bs));
    }

passes_decimal_end : (at : Place) (bs : List ℕ) (n value : ℕ) (done : List Token) → class_of (get_or bs 0 0) ≡ c.Digit → 0 < n → n ≡ prefix_len (λ d. is_digit d 10) bs → value ≡ number_of 10 0 (take n bs) → value < 2 ^ 64
    → n ≡ length bs → Passes at bs n m.Between done m.Between (with_number done at value (column_after at.column n))
passes_decimal_end at [] n value done is some size worth fits all = absurd (omega arith)
passes_decimal_end at (b ∷ bs) n value done is some size worth fits all = λ rest ends.
    let p : ℕ → Bool = λ d. is_digit d 10 in
    let is_first : is_digit b 10 ≡ true = first_passes (is_digit b 10) (prefix_len p bs) (subst (λ i. 0 < i) size some) in
    let o = all_digits 10 n value b bs is_first size worth all in
    subst (λ v. scan (marks_from at.file at.line at.column (b ∷ bs) ++ rest) m.Between done ≡ scan (marks_from at.file at.line (at.column + n) (drop n (b ∷ bs)) ++ rest) m.Between (with_number done at v (column_after at.column n))) (sym o.worth)
    (subst (λ i. scan (marks_from at.file at.line at.column (b ∷ bs) ++ rest) m.Between done ≡ scan (marks_from at.file at.line (at.column + i) (drop i (b ∷ bs)) ++ rest) m.Between (with_number done at (number_of 10 0 (b ∷ bs)) (column_after at.column i))) (sym o.size)
    (decimal_end_is at.file at.line rest b bs at.column done is o.each (subst (λ v. v < 2 ^ 64) o.worth fits) ends
    ∙ ap (λ us. scan (us ++ rest) m.Between (with_number done at (number_of 10 0 (b ∷ bs)) (column_after at.column (suc (length bs))))) (sym (none_marked at.file at.line (at.column + suc (length bs)) (drop (suc (length bs)) (b ∷ bs)) (drop_all (suc (length bs)) (b ∷ bs) (omega arith))))))

passes_hexadecimal_end : (at : Place) (bs : List ℕ) (n value : ℕ) (done : List Token) → class_of (get_or bs 0 0) ≡ c.Zero → (get_or bs 1 0 == 120) ≡ true → 0 < n → n ≡ prefix_len (λ d. is_digit d 16) (drop 2 bs) → value ≡ number_of 16 0 (take n (drop 2 bs)) → value < 2 ^ 64
    → n ≡ length (drop 2 bs) → Passes at bs (n + 2) m.Between done m.Between (with_number done at value (column_after at.column (n + 2)))
passes_hexadecimal_end at [] n value done is is_x some size worth fits all = absurd (omega arith)
passes_hexadecimal_end at (z ∷ []) n value done is is_x some size worth fits all = absurd (omega arith)
passes_hexadecimal_end at (z ∷ x ∷ []) n value done is is_x some size worth fits all = absurd (omega arith)
passes_hexadecimal_end at (z ∷ x ∷ b ∷ bs) n value done is is_x some size worth fits all = λ rest ends.
    let p : ℕ → Bool = λ d. is_digit d 16 in
    let is_first : is_digit b 16 ≡ true = first_passes (is_digit b 16) (prefix_len p bs) (subst (λ i. 0 < i) size some) in
    let o = all_digits 16 n value b bs is_first size worth all in
    subst (λ v. scan (marks_from at.file at.line at.column (z ∷ x ∷ b ∷ bs) ++ rest) m.Between done ≡ scan (marks_from at.file at.line (at.column + (n + 2)) (drop (n + 2) (z ∷ x ∷ b ∷ bs)) ++ rest) m.Between (with_number done at v (column_after at.column (n + 2)))) (sym o.worth)
    (subst (λ i. scan (marks_from at.file at.line at.column (z ∷ x ∷ b ∷ bs) ++ rest) m.Between done ≡ scan (marks_from at.file at.line (at.column + (i + 2)) (drop (i + 2) (z ∷ x ∷ b ∷ bs)) ++ rest) m.Between (with_number done at (number_of 16 0 (b ∷ bs)) (column_after at.column (i + 2)))) (sym o.size)
    (hexadecimal_end_is at.file at.line rest z x b bs at.column done is is_x is_first o.each (subst (λ v. v < 2 ^ 64) o.worth fits) ends
    ∙ ap (λ us. scan (us ++ rest) m.Between (with_number done at (number_of 16 0 (b ∷ bs)) (column_after at.column (suc (length bs) + 2)))) (sym (none_marked at.file at.line (at.column + (suc (length bs) + 2)) (drop (suc (length bs) + 2) (z ∷ x ∷ b ∷ bs)) (drop_all (suc (length bs) + 2) (z ∷ x ∷ b ∷ bs) (omega arith))))))

-- numbers behind which no letter and no digit stands
pub passes_any_decimal : (at : Place) (bs : List ℕ) (n value : ℕ) (done : List Token) → class_of (get_or bs 0 0) ≡ c.Digit → 0 < n → n ≡ prefix_len (λ d. is_digit d 10) bs → value ≡ number_of 10 0 (take n bs) → value < 2 ^ 64
    → n ≤ length bs → (n < length bs → adjoins_number (get_or bs n 0) ≡ false) → Passes at bs n m.Between done m.Between (with_number done at value (column_after at.column n))
passes_any_decimal at bs n value done is some size worth fits within free = elim (leb_tells (suc n) (length bs)) [
  | inl t ↦ passes_decimal at bs n value done is some size worth fits (omega (arith, t.1)) (free (omega (arith, t.1)))
  | inr t ↦ passes_decimal_end at bs n value done is some size worth fits (omega (arith, t.1, within))
]

pub passes_any_hexadecimal : (at : Place) (bs : List ℕ) (n value : ℕ) (done : List Token) → class_of (get_or bs 0 0) ≡ c.Zero → (get_or bs 1 0 == 120) ≡ true → 0 < n → n ≡ prefix_len (λ d. is_digit d 16) (drop 2 bs) → value ≡ number_of 16 0 (take n (drop 2 bs))
    → value < 2 ^ 64 → n ≤ length (drop 2 bs) → (n < length (drop 2 bs) → adjoins_number (get_or (drop 2 bs) n 0) ≡ false) → Passes at bs (n + 2) m.Between done m.Between (with_number done at value (column_after at.column (n + 2)))
passes_any_hexadecimal at bs n value done is is_x some size worth fits within free = elim (leb_tells (suc n) (length (drop 2 bs))) [
  | inl t ↦ passes_hexadecimal at bs n value done is is_x some size worth fits (omega (arith, t.1)) (free (omega (arith, t.1)))
  | inr t ↦ passes_hexadecimal_end at bs n value done is is_x some size worth fits (omega (arith, t.1, within))
]
