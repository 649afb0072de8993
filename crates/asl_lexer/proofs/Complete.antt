-- What is so is what the scan answers.
use Rattle.std.proofs.Common.{◌≡◌, ℕ, ◌-◌, ◌^◌, ◌<◌, ◌≤◌, min, Bool, true, false, List, [], ◌∷◌, ◌++◌, None, Result, Ok, Err, refl, sym, ap, subst, ◌∙◌, append_assoc, arith, inl, inr}
use Rattle.std.proofs.lemmas.Bool.{lt-ltb, le-ltb, eqb-true, cases_lt}
use Rattle.std.specs.Prelude.{◌&&◌, ◌||◌, ◌==◌, nat_lt}
use Rattle.std.specs.Char.{digit_value, is_digit, to_ascii_uppercase}
use Rattle.iasl_messages.specs.declared.place.Place.{Place}
use Rattle.asl_lexer.specs.declared.class.Class.{Class}
use Rattle.asl_lexer.specs.declared.class.Class.TheVariants as c
use Rattle.asl_lexer.specs.declared.class.Radix.{Radix}
use Rattle.asl_lexer.specs.declared.class.Radix.TheVariants.{Octal, Decimal, Hexadecimal}
use Rattle.asl_lexer.specs.declared.token.Token.{Token}
use Rattle.asl_lexer.specs.declared.mode.Fault.{Fault}
use Rattle.asl_lexer.specs.declared.mode.Mode.{Mode}
use Rattle.asl_lexer.specs.declared.mode.Mode.TheVariants as m
use Rattle.asl_lexer.specs.Class.{base_of, takes_equals, doubles, shifts}
use Rattle.asl_lexer.specs.Scan.{MarkedByte, end_at, bad_character, open_string, open_comment, bad_escape, large_number, with_name, with_number, with_string, with_symbol, begin_by, begin, name_by, dot_by, root_by, caret_text, first_of, carets_by, behind_by, digit_by, more, number_by}
use Rattle.asl_lexer.specs.Scan.{zero_by, prefix_by, broken_by, broken_escape_by, is_plain, plain_by, text_by, escaped, digits_by, escaped_by, escape_by, coded_by, value_by, escape_digit_by, slash_by, line_by, block_by, star_by, doubled_by, sign_by, shift_by, step, finish, scan}
use Rattle.asl_lexer.specs.Cut.{Each, Stops, class, end_of, in_name_class, begins_name_class, behind_number_class, in_line_class, is_whitespace_class, in_text_class, behind_slash_class, begins_none_class, begins_sign_class, is_caret_class, is_equals_class, in_line, in_text}
use Rattle.asl_lexer.specs.Cut.{in_name, begins_name, behind_number, behind_slash, is_caret, is_equals, is_x, upper, digit_in, places, IsName, EndsName, no_name_by, no_name_behind, IsNumeral, IsCode, Content, Breaks, Inside, are_two, are_three, Cut, Bad, FailsWith}
use Rattle.asl_lexer.specs.Cut as g
use Rattle.asl_lexer.proofs.Steps.{then_scan, scan_steps, scan_goes}
use Rattle.asl_lexer.proofs.Bits.{both, both_true, value_small, value_min, more_min, more_grows, plain_min, plain_is, x_no_digit, end_of-snoc, left_false, neither, shift_doubles, shift_no_equals}

faults : (b : MarkedByte) (rest : List MarkedByte) (mode : Mode) (done : List Token) (x : Fault) → step mode b.place b.byte done ≡ Err x → scan (b ∷ rest) mode done ≡ Err x
unfolding then_scan
faults b rest mode done x e = scan_steps b rest mode done (Err x) e

-- a step by the class that a byte is known to have
pub begin_is : (k : Class) (b : MarkedByte) (done : List Token) → class b ≡ k → begin b.place b.byte done ≡ begin_by k b.place b.byte done
unfolding begin
begin_is k b done is = ap (λ j. begin_by j b.place b.byte done) is

pub begins : (k : Class) (next : Mode) (b : MarkedByte) (rest : List MarkedByte) (done more_done : List Token) → class b ≡ k → begin_by k b.place b.byte done ≡ Ok (next, more_done) → scan (b ∷ rest) m.Between done ≡ scan rest next more_done
begins k next b rest done more_done is e = scan_goes b rest m.Between next done more_done (begin_is k b done is ∙ e)

pub begins_by : (next : Mode) (b : MarkedByte) (rest : List MarkedByte) (done more_done : List Token) → begin_by (class b) b.place b.byte done ≡ Ok (next, more_done) → scan (b ∷ rest) m.Between done ≡ scan rest next more_done
begins_by next b rest done more_done e = begins (class b) next b rest done more_done refl e

-- a mode that ends before the next byte
pub then_between : (mode : Mode) (rest : List MarkedByte) (done more_done : List Token) → finish mode done ≡ Ok more_done → ((b : MarkedByte) (bs : List MarkedByte) → rest ≡ b ∷ bs → step mode b.place b.byte done ≡ begin b.place b.byte more_done)
    → scan rest mode done ≡ scan rest m.Between more_done
unfolding scan then_scan
then_between mode [] done more_done e h = e
then_between mode (b ∷ bs) done more_done e h = ap (then_scan bs) (h b bs refl)

-- two modes that end alike and take the next byte alike
alike : (mode other : Mode) (rest : List MarkedByte) (done : List Token) → finish mode done ≡ finish other done → ((b : MarkedByte) (bs : List MarkedByte) → rest ≡ b ∷ bs → step mode b.place b.byte done ≡ step other b.place b.byte done)
    → scan rest mode done ≡ scan rest other done
unfolding scan then_scan
alike mode other [] done e h = e
alike mode other (b ∷ bs) done e h = ap (then_scan bs) (h b bs refl)

stops_at : (p : MarkedByte → Bool) (rest : List MarkedByte) (b : MarkedByte) (bs : List MarkedByte) → Stops p rest → rest ≡ b ∷ bs → p b ≡ false
stops_at p rest b bs s e = subst (Stops p) e s

regrouped : (w v rest : List MarkedByte) (mode : Mode) (done : List Token) → scan ((w ++ v) ++ rest) mode done ≡ scan (w ++ (v ++ rest)) mode done
regrouped w v rest mode done = ap (λ ms. scan ms mode done) (append_assoc w v rest)

-- ---- words and paths

pub begin_name : (k : Class) (at : Place) (b : ℕ) (done : List Token) → begins_name_class k ≡ true → begin_by k at b done ≡ Ok (m.Name at false (to_ascii_uppercase b ∷ []), done)
begin_name c.Letter at b done h = refl
begin_name c.Underscore at b done h = refl
begin_name _ at b done h = absurd cc

root_name : (k : Class) (from at : Place) (b : ℕ) (done : List Token) → begins_name_class k ≡ true → root_by k from at b done ≡ Ok (m.Name from true (92 ∷ to_ascii_uppercase b ∷ []), done)
root_name c.Letter from at b done h = refl
root_name c.Underscore from at b done h = refl
root_name _ from at b done h = absurd cc

root_out : (k : Class) (from at : Place) (b : ℕ) (done : List Token) → begins_name_class k ≡ false → root_by k from at b done ≡ begin at b (with_name done true from (92 ∷ []))
root_out c.Letter from at b done h = absurd cc
root_out c.Underscore from at b done h = absurd cc
root_out _ from at b done h = refl

pub name_in : (k : Class) (from : Place) (path : Bool) (name : List ℕ) (at : Place) (b : ℕ) (done : List Token) → in_name_class k ≡ true → name_by k from path name at b done ≡ Ok (m.Name from path (name ++ to_ascii_uppercase b ∷ []), done)
name_in c.Letter from path name at b done h = refl
name_in c.Underscore from path name at b done h = refl
name_in c.Zero from path name at b done h = refl
name_in c.Digit from path name at b done h = refl
name_in _ from path name at b done h = absurd cc

dot_in : (k : Class) (from : Place) (name : List ℕ) (dot : Place) (b : ℕ) (done : List Token) → begins_name_class k ≡ true → dot_by k from name dot b done ≡ Ok (m.Name from true ((name ++ 46 ∷ []) ++ to_ascii_uppercase b ∷ []), done)
dot_in c.Letter from name dot b done h = refl
dot_in c.Underscore from name dot b done h = refl
dot_in _ from name dot b done h = absurd cc

dot_out : (k : Class) (from : Place) (name : List ℕ) (dot : Place) (b : ℕ) (done : List Token) → begins_name_class k ≡ false → dot_by k from name dot b done ≡ Err (bad_character dot)
dot_out c.Letter from name dot b done h = absurd cc
dot_out c.Underscore from name dot b done h = absurd cc
dot_out _ from name dot b done h = refl

carets_in : (k : Class) (before : List Place) (last at : Place) (b : ℕ) (done : List Token) → begins_name_class k ≡ true → carets_by k before last at b done ≡ Ok (m.Name (first_of before last) true (caret_text before ++ 94 ∷ to_ascii_uppercase b ∷ []), done)
carets_in c.Letter before last at b done h = refl
carets_in c.Underscore before last at b done h = refl
carets_in _ before last at b done h = absurd cc

caret_is : (k : Class) → is_caret_class k ≡ true → k ≡ c.Caret
caret_is c.Caret e = refl
caret_is _ e = absurd cc

no_snoc : {X : Type 0} (zs : List X) (z : X) → [] ≡ zs ++ z ∷ [] → ⊥
no_snoc [] z f = cc
no_snoc (u ∷ zs) z f = cc

snoc_none : {X : Type 0} (zs : List X) (z : X) → zs ++ z ∷ [] ≡ [] → ⊥
snoc_none [] z f = cc
snoc_none (u ∷ zs) z f = cc

-- lists that end alike
snoc_same : {X : Type 0} (xs ys : List X) (x y : X) → xs ++ x ∷ [] ≡ ys ++ y ∷ [] → (xs ≡ ys) × (x ≡ y)
snoc_same [] [] x y e = (refl, cc)
snoc_same [] (b ∷ ys) x y e = absurd (no_snoc ys y (cc))
snoc_same (a ∷ xs) [] x y e = absurd (snoc_none xs x (cc))
snoc_same (a ∷ xs) (b ∷ ys) x y e =
    let head : a ≡ b = cc in
    let rest = snoc_same xs ys x y (cc) in
    (λ i. head i ∷ rest.0 i, rest.1)

-- the state behind more carets
carets_after : List MarkedByte → List Place → Place → List Place × Place
carets_after [] before last = (before, last)
carets_after (x ∷ ms) before last = carets_after ms (before ++ last ∷ []) x.place

carets_after_places : (ms : List MarkedByte) (before : List Place) (last : Place) → (carets_after ms before last).0 ++ (carets_after ms before last).1 ∷ [] ≡ before ++ last ∷ places ms
unfolding carets_after
carets_after_places [] before last = refl
carets_after_places (x ∷ ms) before last = carets_after_places ms (before ++ last ∷ []) x.place ∙ append_assoc before (last ∷ []) (x.place ∷ places ms)

carets_after_run : (ms rest : List MarkedByte) (before : List Place) (last : Place) (done : List Token) → Each is_caret ms
    → scan (ms ++ rest) (m.Carets before last) done ≡ scan rest (m.Carets (carets_after ms before last).0 (carets_after ms before last).1) done
unfolding carets_after
carets_after_run [] rest before last done each = refl
carets_after_run (x ∷ ms) rest before last done each =
    scan_goes x (ms ++ rest) (m.Carets before last) (m.Carets (before ++ last ∷ []) x.place) done done (ap (λ k. carets_by k before last x.place x.byte done) (caret_is (class x) each.0))
    ∙ carets_after_run ms rest (before ++ last ∷ []) x.place done each.1

carets_run : (ms rest : List MarkedByte) (before : List Place) (last : Place) (done : List Token) → Each is_caret ms → places ms ≡ before ++ last ∷ [] → scan (ms ++ rest) m.Between done ≡ scan rest (m.Carets before last) done
carets_run [] rest [] last done each e = absurd cc
carets_run [] rest (p ∷ ps) last done each e = absurd cc
carets_run (x ∷ ms) rest before last done each e =
    let same = snoc_same (carets_after ms [] x.place).0 before (carets_after ms [] x.place).1 last (carets_after_places ms [] x.place ∙ e) in
    begins c.Caret (m.Carets [] x.place) x (ms ++ rest) done done (caret_is (class x) each.0) refl ∙ carets_after_run ms rest [] x.place done each.1
    ∙ ap (λ ps. scan rest (m.Carets ps (carets_after ms [] x.place).1) done) same.0 ∙ ap (λ p. scan rest (m.Carets before p) done) same.1

name_run : {path : Bool} {from : Place} {name : List ℕ} {w : List MarkedByte} → IsName path from name w → (rest : List MarkedByte) (done : List Token) → scan (w ++ rest) m.Between done ≡ scan rest (m.Name from path name) done
name_run (g.IsName.word {m = b} is) rest done = begins_by (m.Name b.place false (upper b ∷ [])) b rest done done (begin_name (class b) b.place b.byte done is)
name_run (g.IsName.rooted {r = r} {m = b} root is) rest done =
    begins c.Backslash (m.Root r.place) r (b ∷ rest) done done root refl
    ∙ scan_goes b rest (m.Root r.place) (m.Name r.place true (92 ∷ upper b ∷ [])) done done (root_name (class b) r.place b.place b.byte done is)
name_run (g.IsName.raised before last cs b each at is) rest done =
    regrouped cs (b ∷ []) rest m.Between done ∙ carets_run cs (b ∷ rest) before last done each at
    ∙ scan_goes b rest (m.Carets before last) (m.Name (first_of before last) true (caret_text before ++ 94 ∷ upper b ∷ [])) done done (carets_in (class b) before last b.place b.byte done is)
name_run (g.IsName.more {path = path} {from = from} {text = name} {w = w} b name_is is) rest done =
    regrouped w (b ∷ []) rest m.Between done ∙ name_run name_is (b ∷ rest) done
    ∙ scan_goes b rest (m.Name from path name) (m.Name from path (name ++ upper b ∷ [])) done done (name_in (class b) from path name b.place b.byte done is)
name_run (g.IsName.dotted {path = path} {from = from} {text = name} {w = w} d b name_is dot is) rest done =
    regrouped w (d ∷ b ∷ []) rest m.Between done ∙ name_run name_is (d ∷ b ∷ rest) done
    ∙ scan_goes d (b ∷ rest) (m.Name from path name) (m.Dot from path name d.place) done done (ap (λ k. name_by k from path name d.place d.byte done) dot)
    ∙ scan_goes b rest (m.Dot from path name d.place) (m.Name from true ((name ++ 46 ∷ []) ++ upper b ∷ [])) done done (dot_in (class b) from name d.place b.byte done is)

-- a dot behind a word that no word follows
dot_faults : (from : Place) (path : Bool) (name : List ℕ) (dot : Place) (rest : List MarkedByte) (done : List Token) → Stops begins_name rest → scan rest (m.Dot from path name dot) done ≡ Err (bad_character dot)
unfolding scan
dot_faults from path name dot [] done s = refl
dot_faults from path name dot (b ∷ rest) done s = faults b rest (m.Dot from path name dot) done (bad_character dot) (dot_out (class b) from name dot b.byte done s)

name_ends : (k : Class) (from : Place) (path : Bool) (name : List ℕ) (b : MarkedByte) (rest : List MarkedByte) (done : List Token) → class b ≡ k → in_name_class k ≡ false → (k ≡ c.Dot → Stops begins_name rest)
    → scan (b ∷ rest) (m.Name from path name) done ≡ scan (b ∷ rest) m.Between (with_name done path from name)
unfolding begin
name_ends c.Letter from path name b rest done is out dot = absurd cc
name_ends c.Underscore from path name b rest done is out dot = absurd cc
name_ends c.Zero from path name b rest done is out dot = absurd cc
name_ends c.Digit from path name b rest done is out dot = absurd cc
name_ends c.Dot from path name b rest done is out dot =
    scan_goes b rest (m.Name from path name) (m.Dot from path name b.place) done done (ap (λ k. name_by k from path name b.place b.byte done) is)
    ∙ dot_faults from path name b.place rest done (dot refl) ∙ sym (faults b rest m.Between (with_name done path from name) (bad_character b.place) (begin_is c.Dot b (with_name done path from name) is))
name_ends k from path name b rest done is out dot =
    then_between (m.Name from path name) (b ∷ rest) done (with_name done path from name) refl (λ x xs e.
    let same : b ≡ x = cc in
    subst (λ y. name_by (class y) from path name y.place y.byte done ≡ begin y.place y.byte (with_name done path from name)) same (ap (λ j. name_by j from path name b.place b.byte done) is))

pub names_end : (from : Place) (path : Bool) (name : List ℕ) (rest : List MarkedByte) (done : List Token) → EndsName rest → scan rest (m.Name from path name) done ≡ scan rest m.Between (with_name done path from name)
unfolding scan
names_end from path name [] done ends = refl
names_end from path name (b ∷ rest) done ends = name_ends (class b) from path name b rest done refl ends.0 ends.1

-- ---- carets

drop_by : (k : Class) (b : MarkedByte) (rest : List MarkedByte) (p : Place) (before : List Place) (last : Place) (done : List Token) → class b ≡ k → no_name_by k (no_name_behind rest) ≡ true
    → ((ps : List Place) (q : Place) → no_name_behind rest ≡ true → scan rest (m.Carets (p ∷ ps) q) done ≡ scan rest (m.Carets ps q) (with_symbol done p (94 ∷ [])))
    → scan (b ∷ rest) (m.Carets (p ∷ before) last) done ≡ scan (b ∷ rest) (m.Carets before last) (with_symbol done p (94 ∷ []))
unfolding scan then_scan
drop_by c.Caret b rest p before last done is f more_carets =
    scan_goes b rest (m.Carets (p ∷ before) last) (m.Carets (p ∷ (before ++ last ∷ [])) b.place) done done (ap (λ k. carets_by k (p ∷ before) last b.place b.byte done) is)
    ∙ more_carets (before ++ last ∷ []) b.place f
    ∙ sym (scan_goes b rest (m.Carets before last) (m.Carets (before ++ last ∷ []) b.place) (with_symbol done p (94 ∷ [])) (with_symbol done p (94 ∷ [])) (ap (λ k. carets_by k before last b.place b.byte (with_symbol done p (94 ∷ []))) is))
drop_by c.Letter b rest p before last done is f more_carets = absurd cc
drop_by c.Underscore b rest p before last done is f more_carets = absurd cc
drop_by _ b rest p before last done is f more_carets =
    ap (then_scan rest) (ap (λ k. carets_by k (p ∷ before) last b.place b.byte done) is ∙ sym (ap (λ k. carets_by k before last b.place b.byte (with_symbol done p (94 ∷ []))) is))

-- the first of several carets that no word follows is an operator
drop_caret : (rest : List MarkedByte) (p : Place) (before : List Place) (last : Place) (done : List Token) → no_name_behind rest ≡ true → scan rest (m.Carets (p ∷ before) last) done ≡ scan rest (m.Carets before last) (with_symbol done p (94 ∷ []))
unfolding scan
drop_caret [] p before last done h = refl
drop_caret (b ∷ rest) p before last done h = drop_by (class b) b rest p before last done refl h (λ ps q n. drop_caret rest p ps q done n)

caret_by : (k : Class) (at : Place) (x : MarkedByte) (xs : List MarkedByte) (done : List Token) → class x ≡ k → is_equals_class k ≡ false → no_name_by k (no_name_behind xs) ≡ true
    → scan (x ∷ xs) (m.Carets [] at) done ≡ scan (x ∷ xs) m.Between (with_symbol done at (94 ∷ []))
unfolding scan then_scan
caret_by c.Caret at x xs done k e n =
    scan_goes x xs (m.Carets [] at) (m.Carets (at ∷ []) x.place) done done (ap (λ j. carets_by j [] at x.place x.byte done) k)
    ∙ drop_caret xs at [] x.place done n ∙ sym (begins c.Caret (m.Carets [] x.place) x xs (with_symbol done at (94 ∷ [])) (with_symbol done at (94 ∷ [])) k refl)
caret_by c.Letter at x xs done k e n = absurd cc
caret_by c.Underscore at x xs done k e n = absurd cc
caret_by c.Equals at x xs done k e n = absurd cc
caret_by _ at x xs done k e n = ap (then_scan xs) (ap (λ j. carets_by j [] at x.place x.byte done) k)

caret_ends : (at : Place) (rest : List MarkedByte) (done : List Token) → Stops is_equals rest → no_name_behind rest ≡ true → scan rest (m.Carets [] at) done ≡ scan rest m.Between (with_symbol done at (94 ∷ []))
unfolding scan
caret_ends at [] done e n = refl
caret_ends at (x ∷ xs) done e n = caret_by (class x) at x xs done refl e n

caret_run : (b : MarkedByte) (rest : List MarkedByte) (done : List Token) → class b ≡ c.Caret → Stops is_equals rest → no_name_behind rest ≡ true → scan (b ∷ rest) m.Between done ≡ scan rest m.Between (with_symbol done b.place (94 ∷ []))
caret_run b rest done is no_equals no_name = begins c.Caret (m.Carets [] b.place) b rest done done is refl ∙ caret_ends b.place rest done no_equals no_name

-- ---- numbers

behind_out : (k : Class) (from : Place) (value end : ℕ) (at : Place) (b : ℕ) (done : List Token) → behind_number_class k ≡ false → behind_by k from value end at b done ≡ begin at b (with_number done from value end)
behind_out c.Letter from value end at b done h = absurd cc
behind_out c.Zero from value end at b done h = absurd cc
behind_out c.Digit from value end at b done h = absurd cc
behind_out _ from value end at b done h = refl

behind_in : (k : Class) (from : Place) (value end : ℕ) (at : Place) (b : ℕ) (done : List Token) → behind_number_class k ≡ true → behind_by k from value end at b done ≡ Err (bad_character at)
behind_in c.Letter from value end at b done h = refl
behind_in c.Zero from value end at b done h = refl
behind_in c.Digit from value end at b done h = refl
behind_in _ from value end at b done h = absurd cc

pub number_small : (from : Place) (radix : Radix) (value end : ℕ) (b : MarkedByte) (done : List Token) → digit_in (base_of radix) b ≡ true → more value radix b.byte < 2 ^ 64
    → step (m.Number from radix value end) b.place b.byte done ≡ Ok (m.Number from radix (more value radix b.byte) (end_at b.place), done)
number_small from radix value end b done is small =
    ap (λ t. number_by t from radix value end b.place b.byte done) is ∙ ap (λ t. digit_by t from radix (more value radix b.byte) (end_at b.place) done) (lt-ltb (more value radix b.byte) (2 ^ 64) small)

number_large : (from : Place) (radix : Radix) (value end : ℕ) (b : MarkedByte) (done : List Token) → digit_in (base_of radix) b ≡ true → 2 ^ 64 ≤ more value radix b.byte
    → step (m.Number from radix value end) b.place b.byte done ≡ Err (large_number from)
number_large from radix value end b done is large =
    ap (λ t. number_by t from radix value end b.place b.byte done) is ∙ ap (λ t. digit_by t from radix (more value radix b.byte) (end_at b.place) done) (le-ltb (more value radix b.byte) (2 ^ 64) large)

record NumeralRun (radix : Radix) (from : Place) (value : ℕ) (w rest : List MarkedByte) (done : List Token) : Type 0 where
  small : value < 2 ^ 64 → scan (w ++ rest) m.Between done ≡ scan rest (m.Number from radix value (end_of w)) done
  large : 2 ^ 64 ≤ value → scan (w ++ rest) m.Between done ≡ Err (large_number from)

first_digit : (radix : Radix) (from : Place) (b : ℕ) (w rest : List MarkedByte) (done : List Token) → scan (w ++ rest) m.Between done ≡ scan rest (m.Number from radix (digit_value b) (end_of w)) done → NumeralRun radix from (digit_value b) w rest done
first_digit radix from b w rest done e = record { small = λ h. e; large = λ h. absurd (omega (arith, value_small b)) }

one_more : (radix : Radix) (from : Place) (value : ℕ) (w : List MarkedByte) (b : MarkedByte) (rest : List MarkedByte) (done : List Token) → digit_in (base_of radix) b ≡ true → NumeralRun radix from value w (b ∷ rest) done
    → NumeralRun radix from (more value radix b.byte) (w ++ b ∷ []) rest done
one_more radix from value w b rest done is run = record {
  small = λ h.
      let front : value < 2 ^ 64 = omega (arith, more_grows radix value b.byte) in
      regrouped w (b ∷ []) rest m.Between done ∙ run.small front ∙ scan_goes b rest (m.Number from radix value (end_of w)) (m.Number from radix (more value radix b.byte) (end_at b.place)) done done (number_small from radix value (end_of w) b done is h)
      ∙ ap (λ n. scan rest (m.Number from radix (more value radix b.byte) n) done) (sym (end_of-snoc w b));
  large = λ h. elim (cases_lt value (2 ^ 64)) [
    | inl lt ↦ regrouped w (b ∷ []) rest m.Between done ∙ run.small lt ∙ faults b rest (m.Number from radix value (end_of w)) done (large_number from) (number_large from radix value (end_of w) b done is h)
    | inr le ↦ regrouped w (b ∷ []) rest m.Between done ∙ run.large le
  ];
}

numeral_run : {radix : Radix} {from : Place} {value : ℕ} {w : List MarkedByte} → IsNumeral radix from value w → (rest : List MarkedByte) (done : List Token) → NumeralRun radix from value w rest done
numeral_run (g.IsNumeral.decimal {m = b} is) rest done = first_digit Decimal b.place b.byte (b ∷ []) rest done (begins c.Digit (m.Number b.place Decimal (digit_value b.byte) (end_at b.place)) b rest done done is refl)
numeral_run (g.IsNumeral.octal {z = z} {m = b} zero is) rest done =
    first_digit Octal z.place b.byte (z ∷ b ∷ []) rest done
    (begins c.Zero (m.Zero z.place) z (b ∷ rest) done done zero refl ∙ scan_goes b rest (m.Zero z.place) (m.Number z.place Octal (digit_value b.byte) (end_at b.place)) done done (ap (λ t. zero_by t (b.byte == 120) z.place b.place b.byte done) is))
numeral_run (g.IsNumeral.hexadecimal {z = z} {x = x} {m = b} zero is_x is) rest done =
    first_digit Hexadecimal z.place b.byte (z ∷ x ∷ b ∷ []) rest done
    (begins c.Zero (m.Zero z.place) z (x ∷ b ∷ rest) done done zero refl
    ∙ scan_goes x (b ∷ rest) (m.Zero z.place) (m.Prefix z.place x.place) done done (ap (λ t. zero_by t (x.byte == 120) z.place x.place x.byte done) (x_no_digit x.byte is_x) ∙ ap (λ u. zero_by false u z.place x.place x.byte done) is_x)
    ∙ scan_goes b rest (m.Prefix z.place x.place) (m.Number z.place Hexadecimal (digit_value b.byte) (end_at b.place)) done done (ap (λ t. prefix_by t z.place x.place b.place b.byte done) is))
numeral_run (g.IsNumeral.more {radix = radix} {from = from} {value = value} {w = w} b numeral is) rest done = one_more radix from value w b rest done is (numeral_run numeral (b ∷ rest) done)

pub number_ends : (from : Place) (radix : Radix) (value end : ℕ) (rest : List MarkedByte) (done : List Token) → Stops (digit_in (base_of radix)) rest → Stops behind_number rest
    → scan rest (m.Number from radix value end) done ≡ scan rest m.Between (with_number done from value end)
number_ends from radix value end rest done no_digit none =
    then_between (m.Number from radix value end) rest done (with_number done from value end) refl (λ b bs e.
    ap (λ t. number_by t from radix value end b.place b.byte done) (stops_at (digit_in (base_of radix)) rest b bs no_digit e) ∙ behind_out (class b) from value end b.place b.byte done (stops_at behind_number rest b bs none e))

zero_is : (from : Place) (b : MarkedByte) (done : List Token) → digit_in 8 b ≡ false → is_x b ≡ false → step (m.Zero from) b.place b.byte done ≡ behind_by (class b) from 0 (end_at from) b.place b.byte done
zero_is from b done no_digit no_x = ap (λ t. zero_by t (b.byte == 120) from b.place b.byte done) no_digit ∙ ap (λ t. zero_by false t from b.place b.byte done) no_x

zero_ends : (from : Place) (rest : List MarkedByte) (done : List Token) → Stops (digit_in 8) rest → Stops is_x rest → Stops behind_number rest → scan rest (m.Zero from) done ≡ scan rest m.Between (with_number done from 0 (end_at from))
zero_ends from rest done no_digit no_x none =
    then_between (m.Zero from) rest done (with_number done from 0 (end_at from)) refl (λ b bs e.
    zero_is from b done (stops_at (digit_in 8) rest b bs no_digit e) (stops_at is_x rest b bs no_x e) ∙ behind_out (class b) from 0 (end_at from) b.place b.byte done (stops_at behind_number rest b bs none e))

-- ---- strings

abbrev text_mode : Result (List ℕ) Fault → Place → Mode
text_mode (Ok string) from = m.Text from string
text_mode (Err fault) from = m.Broken from fault

pub text_in : (k : Class) (from : Place) (string : List ℕ) (at : Place) (b : ℕ) (done : List Token) → in_text_class k ≡ true → text_by k from string at b done ≡ plain_by (is_plain b) from string at b done
text_in c.Break from string at b done h = absurd cc
text_in c.Quote from string at b done h = absurd cc
text_in c.Backslash from string at b done h = absurd cc
text_in _ from string at b done h = refl

broken_in : (k : Class) (from : Place) (fault : Fault) (done : List Token) → in_text_class k ≡ true → broken_by k from fault done ≡ Ok (m.Broken from fault, done)
broken_in c.Break from fault done h = absurd cc
broken_in c.Quote from fault done h = absurd cc
broken_in c.Backslash from fault done h = absurd cc
broken_in _ from fault done h = refl

escape_in : (k : Class) (from : Place) (string : List ℕ) (slash : Place) (b : ℕ) (done : List Token) → in_line_class k ≡ true → escape_by k from string slash b done ≡ escaped_by (escaped b) from string slash b done
escape_in c.Break from string slash b done h = absurd cc
escape_in _ from string slash b done h = refl

broken_escape_in : (k : Class) (from : Place) (fault : Fault) (done : List Token) → in_line_class k ≡ true → broken_escape_by k from fault done ≡ Ok (m.Broken from fault, done)
broken_escape_in c.Break from fault done h = absurd cc
broken_escape_in _ from fault done h = refl

-- a backslash in a string
to_escape : (s : MarkedByte) (rest : List MarkedByte) (from : Place) (string : List ℕ) (done : List Token) → class s ≡ c.Backslash → scan (s ∷ rest) (m.Text from string) done ≡ scan rest (m.Escape from string s.place) done
to_escape s rest from string done is = scan_goes s rest (m.Text from string) (m.Escape from string s.place) done done (ap (λ k. text_by k from string s.place s.byte done) is)

-- a byte behind it that is no escape of one letter
no_letter : (b : MarkedByte) (from : Place) (string : List ℕ) (slash : Place) (done : List Token) → in_line b ≡ true → escaped b.byte ≡ None → step (m.Escape from string slash) b.place b.byte done ≡ digits_by (is_digit b.byte 8) (b.byte == 120) from string slash b.byte done
no_letter b from string slash done line none = escape_in (class b) from string slash b.byte done line ∙ ap (λ o. escaped_by o from string slash b.byte done) none

to_coded : (x : MarkedByte) (rest : List MarkedByte) (from : Place) (string : List ℕ) (slash : Place) (done : List Token) → in_line x ≡ true → escaped x.byte ≡ None → digit_in 8 x ≡ false → (x.byte == 120) ≡ true
    → scan (x ∷ rest) (m.Escape from string slash) done ≡ scan rest (m.Coded from string slash) done
to_coded x rest from string slash done line none no_digit is_x =
    scan_goes x rest (m.Escape from string slash) (m.Coded from string slash) done done
    (no_letter x from string slash done line none ∙ ap (λ t. digits_by t (x.byte == 120) from string slash x.byte done) no_digit ∙ ap (λ t. digits_by false t from string slash x.byte done) is_x)

code_run : {radix : Radix} {value left : ℕ} {w : List MarkedByte} → IsCode radix value left w → (rest : List MarkedByte) (from : Place) (string : List ℕ) (slash : Place) (done : List Token)
    → scan (w ++ rest) (m.Escape from string slash) done ≡ scan rest (m.Digits from string slash radix (min value 255) left) done
code_run (g.IsCode.octal {m = b} line none is) rest from string slash done =
    scan_goes b rest (m.Escape from string slash) (m.Digits from string slash Octal (digit_value b.byte) 2) done done (no_letter b from string slash done line none ∙ ap (λ t. digits_by t (b.byte == 120) from string slash b.byte done) is)
    ∙ ap (λ v. scan rest (m.Digits from string slash Octal v 2) done) (value_min b.byte)
code_run (g.IsCode.hexadecimal {x = x} {m = b} line none no_digit is_x is) rest from string slash done =
    to_coded x (b ∷ rest) from string slash done line none no_digit is_x
    ∙ scan_goes b rest (m.Coded from string slash) (m.Digits from string slash Hexadecimal (digit_value b.byte) 1) done done (ap (λ t. coded_by t from string slash b.byte done) is)
    ∙ ap (λ v. scan rest (m.Digits from string slash Hexadecimal v 1) done) (value_min b.byte)
code_run (g.IsCode.more {radix = radix} {value = value} {left = left} {w = w} b code room is) rest from string slash done =
    regrouped w (b ∷ []) rest (m.Escape from string slash) done ∙ code_run code (b ∷ rest) from string slash done
    ∙ scan_goes b rest (m.Digits from string slash radix (min value 255) left) (m.Digits from string slash radix (min (more (min value 255) radix b.byte) 255) (left - 1)) done done
    (ap (λ t. escape_digit_by t from string slash radix (min value 255) left b.place b.byte done) (both_true (nat_lt 0 left) (digit_in (base_of radix) b) (lt-ltb 0 left room) is))
    ∙ ap (λ v. scan rest (m.Digits from string slash radix v (left - 1)) done) (more_min radix value b.byte)

code_ends : (from : Place) (string : List ℕ) (slash : Place) (radix : Radix) (value left : ℕ) (rest : List MarkedByte) (done : List Token) → Stops (λ b. nat_lt 0 left && digit_in (base_of radix) b) rest → is_plain value ≡ true
    → scan rest (m.Digits from string slash radix (min value 255) left) done ≡ scan rest (m.Text from (string ++ value ∷ [])) done
code_ends from string slash radix value left rest done s plain =
    alike (m.Digits from string slash radix (min value 255) left) (m.Text from (string ++ value ∷ [])) rest done refl (λ b bs e.
    ap (λ t. escape_digit_by t from string slash radix (min value 255) left b.place b.byte done) (stops_at (λ x. nat_lt 0 left && digit_in (base_of radix) x) rest b bs s e)
    ∙ ap (λ t. value_by t from string slash (min value 255) b.place b.byte done) (plain_min value ∙ plain)
    ∙ ap (λ v. text_by (class b) from (string ++ v ∷ []) b.place b.byte done) (plain_is value plain))

bad_code_ends : (from : Place) (string : List ℕ) (slash : Place) (radix : Radix) (value left : ℕ) (rest : List MarkedByte) (done : List Token) → Stops (λ b. nat_lt 0 left && digit_in (base_of radix) b) rest → is_plain value ≡ false
    → scan rest (m.Digits from string slash radix (min value 255) left) done ≡ scan rest (m.Broken from (bad_escape slash)) done
bad_code_ends from string slash radix value left rest done s plain =
    alike (m.Digits from string slash radix (min value 255) left) (m.Broken from (bad_escape slash)) rest done refl (λ b bs e.
    ap (λ t. escape_digit_by t from string slash radix (min value 255) left b.place b.byte done) (stops_at (λ x. nat_lt 0 left && digit_in (base_of radix) x) rest b bs s e)
    ∙ ap (λ t. value_by t from string slash (min value 255) b.place b.byte done) (plain_min value ∙ plain))

no_code_ends : (from : Place) (string : List ℕ) (slash : Place) (rest : List MarkedByte) (done : List Token) → Stops (digit_in 16) rest → scan rest (m.Coded from string slash) done ≡ scan rest (m.Broken from (bad_escape slash)) done
no_code_ends from string slash rest done s =
    alike (m.Coded from string slash) (m.Broken from (bad_escape slash)) rest done refl (λ b bs e. ap (λ t. coded_by t from string slash b.byte done) (stops_at (digit_in 16) rest b bs s e))

content_run : {s : Result (List ℕ) Fault} {bytes rest : List MarkedByte} → Content s bytes rest → (from : Place) (done : List Token) → scan bytes (m.Text from []) done ≡ scan rest (text_mode s from) done
content_run g.no_bytes from done = refl
content_run (g.plain {text = string} {m = b} {rest = rest} content is plain) from done =
    content_run content from done ∙ scan_goes b rest (m.Text from string) (m.Text from (string ++ b.byte ∷ [])) done done (text_in (class b) from string b.place b.byte done is ∙ ap (λ t. plain_by t from string b.place b.byte done) plain)
content_run (g.bad_byte {text = string} {m = b} {rest = rest} content is plain) from done =
    content_run content from done ∙ scan_goes b rest (m.Text from string) (m.Broken from (bad_character b.place)) done done (text_in (class b) from string b.place b.byte done is ∙ ap (λ t. plain_by t from string b.place b.byte done) plain)
content_run (g.escape {text = string} {x = x} {s = s} {m = b} {rest = rest} content slash line is) from done =
    content_run content from done ∙ to_escape s (b ∷ rest) from string done slash
    ∙ scan_goes b rest (m.Escape from string s.place) (m.Text from (string ++ x ∷ [])) done done (escape_in (class b) from string s.place b.byte done line ∙ ap (λ o. escaped_by o from string s.place b.byte done) is)
content_run (g.code {text = string} {radix = radix} {value = value} {left = left} {s = s} {rest = rest} w content slash code ends plain) from done =
    content_run content from done ∙ to_escape s (w ++ rest) from string done slash ∙ code_run code rest from string s.place done ∙ code_ends from string s.place radix value left rest done ends plain
content_run (g.bad_code {text = string} {radix = radix} {value = value} {left = left} {s = s} {rest = rest} w content slash code ends plain) from done =
    content_run content from done ∙ to_escape s (w ++ rest) from string done slash ∙ code_run code rest from string s.place done ∙ bad_code_ends from string s.place radix value left rest done ends plain
content_run (g.no_code {text = string} {s = s} {x = x} {rest = rest} content slash line none no_digit is_x ends) from done =
    content_run content from done ∙ to_escape s (x ∷ rest) from string done slash ∙ to_coded x rest from string s.place done line none no_digit is_x ∙ no_code_ends from string s.place rest done ends
content_run (g.no_escape {text = string} {s = s} {m = b} {rest = rest} content slash line none no_digit no_x) from done =
    content_run content from done ∙ to_escape s (b ∷ rest) from string done slash
    ∙ scan_goes b rest (m.Escape from string s.place) (m.Broken from (bad_escape s.place)) done done
    (no_letter b from string s.place done line none ∙ ap (λ t. digits_by t (b.byte == 120) from string s.place b.byte done) no_digit ∙ ap (λ t. digits_by false t from string s.place b.byte done) no_x)
content_run (g.passed {fault = fault} {m = b} {rest = rest} content is) from done =
    content_run content from done ∙ scan_goes b rest (m.Broken from fault) (m.Broken from fault) done done (broken_in (class b) from fault done is)
content_run (g.passed_escape {fault = fault} {s = s} {m = b} {rest = rest} content slash line) from done =
    content_run content from done ∙ scan_goes s (b ∷ rest) (m.Broken from fault) (m.BrokenEscape from fault) done done (ap (λ k. broken_by k from fault done) slash)
    ∙ scan_goes b rest (m.BrokenEscape from fault) (m.Broken from fault) done done (broken_escape_in (class b) from fault done line)

breaks : {rest : List MarkedByte} → Breaks rest → (s : Result (List ℕ) Fault) (from : Place) (done : List Token) → scan rest (text_mode s from) done ≡ Err (open_string from)
unfolding scan
breaks g.at_end (Ok string) from done = refl
breaks g.at_end (Err fault) from done = refl
breaks (g.at_line {m = b} {rest = rest} is) (Ok string) from done = faults b rest (m.Text from string) done (open_string from) (ap (λ k. text_by k from string b.place b.byte done) is)
breaks (g.at_line {m = b} {rest = rest} is) (Err fault) from done = faults b rest (m.Broken from fault) done (open_string from) (ap (λ k. broken_by k from fault done) is)
breaks (g.at_escape {s = s} is) (Ok string) from done = to_escape s [] from string done is
breaks (g.at_escape {s = s} is) (Err fault) from done = scan_goes s [] (m.Broken from fault) (m.BrokenEscape from fault) done done (ap (λ k. broken_by k from fault done) is)
breaks (g.at_escaped_line {s = s} {m = b} {rest = rest} slash is) (Ok string) from done =
    to_escape s (b ∷ rest) from string done slash ∙ faults b rest (m.Escape from string s.place) done (open_string from) (ap (λ k. escape_by k from string s.place b.byte done) is)
breaks (g.at_escaped_line {s = s} {m = b} {rest = rest} slash is) (Err fault) from done =
    scan_goes s (b ∷ rest) (m.Broken from fault) (m.BrokenEscape from fault) done done (ap (λ k. broken_by k from fault done) slash)
    ∙ faults b rest (m.BrokenEscape from fault) done (open_string from) (ap (λ k. broken_escape_by k from fault done) is)

-- ---- comments

abbrev blocked : Bool → Place → Mode
blocked true from = m.Star from
blocked false from = m.Block from

pub block_out : (k : Class) (from : Place) (done : List Token) → (k ≡ c.Star → ⊥) → block_by k from done ≡ Ok (m.Block from, done)
block_out c.Star from done h = absurd (h refl)
block_out _ from done h = refl

star_out : (k : Class) (from : Place) (done : List Token) → (k ≡ c.Star → ⊥) → (k ≡ c.Slash → ⊥) → star_by k from done ≡ Ok (m.Block from, done)
star_out c.Star from done h i = absurd (h refl)
star_out c.Slash from done h i = absurd (i refl)
star_out _ from done h i = refl

star_step : (s : Bool) (from : Place) (b : MarkedByte) (done : List Token) → class b ≡ c.Star → step (blocked s from) b.place b.byte done ≡ Ok (m.Star from, done)
star_step true from b done is = ap (λ k. star_by k from done) is
star_step false from b done is = ap (λ k. block_by k from done) is

inside_run : {s : Bool} {bytes rest : List MarkedByte} → Inside s bytes rest → (from : Place) (done : List Token) → scan bytes (m.Block from) done ≡ scan rest (blocked s from) done
inside_run g.opened from done = refl
inside_run (g.a_star {s = s} {m = b} {rest = rest} inside is) from done = inside_run inside from done ∙ scan_goes b rest (blocked s from) (m.Star from) done done (star_step s from b done is)
inside_run (g.no_star {m = b} {rest = rest} inside no_star) from done = inside_run inside from done ∙ scan_goes b rest (m.Block from) (m.Block from) done done (block_out (class b) from done no_star)
inside_run (g.behind_star {m = b} {rest = rest} inside no_star no_slash) from done = inside_run inside from done ∙ scan_goes b rest (m.Star from) (m.Block from) done done (star_out (class b) from done no_star no_slash)

blocked_end : (s : Bool) (from : Place) (done : List Token) → scan [] (blocked s from) done ≡ Err (open_comment from)
unfolding scan
blocked_end true from done = refl
blocked_end false from done = refl

to_slash : (a : MarkedByte) (rest : List MarkedByte) (done : List Token) → class a ≡ c.Slash → scan (a ∷ rest) m.Between done ≡ scan rest (m.Slash a.place) done
to_slash a rest done is = begins c.Slash (m.Slash a.place) a rest done done is refl

to_block : (a b : MarkedByte) (rest : List MarkedByte) (done : List Token) → class a ≡ c.Slash → class b ≡ c.Star → scan (a ∷ b ∷ rest) m.Between done ≡ scan rest (m.Block a.place) done
to_block a b rest done first second = to_slash a (b ∷ rest) done first ∙ scan_goes b rest (m.Slash a.place) (m.Block a.place) done done (ap (λ k. slash_by k a.place b.place b.byte done) second)

pub line_in : (k : Class) (done : List Token) → in_line_class k ≡ true → line_by k done ≡ Ok (m.Line, done)
line_in c.Break done h = absurd cc
line_in _ done h = refl

line_run : (w rest : List MarkedByte) (done : List Token) → Each in_line w → scan (w ++ rest) m.Line done ≡ scan rest m.Line done
line_run [] rest done each = refl
line_run (x ∷ w) rest done each = scan_goes x (w ++ rest) m.Line m.Line done done (line_in (class x) done each.0) ∙ line_run w rest done each.1

line_out : (k : Class) (at : Place) (b : ℕ) (done : List Token) → in_line_class k ≡ false → line_by k done ≡ begin_by k at b done
line_out c.Break at b done h = refl
line_out _ at b done h = absurd cc

line_ends : (rest : List MarkedByte) (done : List Token) → Stops in_line rest → scan rest m.Line done ≡ scan rest m.Between done
line_ends rest done s = then_between m.Line rest done done refl (λ b bs e. line_out (class b) b.place b.byte done (stops_at in_line rest b bs s e) ∙ sym (begin_is (class b) b done refl))

slash_out : (k : Class) (from at : Place) (b : ℕ) (done : List Token) → behind_slash_class k ≡ false → slash_by k from at b done ≡ begin at b (with_symbol done from (47 ∷ []))
slash_out c.Slash from at b done h = absurd cc
slash_out c.Star from at b done h = absurd cc
slash_out c.Equals from at b done h = absurd cc
slash_out _ from at b done h = refl

-- ---- symbols

begin_sign : (k : Class) (at : Place) (b : ℕ) (done : List Token) → begins_sign_class k ≡ true → begin_by k at b done ≡ Ok (m.Sign at b, done)
begin_sign c.Star at b done h = refl
begin_sign c.Equals at b done h = refl
begin_sign c.Sign at b done h = refl
begin_sign _ at b done h = absurd cc

pub to_sign : (b : MarkedByte) (rest : List MarkedByte) (done : List Token) → begins_sign_class (class b) ≡ true → scan (b ∷ rest) m.Between done ≡ scan rest (m.Sign b.place b.byte) done
to_sign b rest done is = begins_by (m.Sign b.place b.byte) b rest done done (begin_sign (class b) b.place b.byte done is)

pub sign_ends : (from : Place) (first : ℕ) (rest : List MarkedByte) (done : List Token) → Stops (λ n. are_two first n.byte) rest → scan rest (m.Sign from first) done ≡ scan rest m.Between (with_symbol done from (first ∷ []))
sign_ends from first rest done s =
    then_between (m.Sign from first) rest done (with_symbol done from (first ∷ [])) refl (λ b bs e.
    let none = neither ((b.byte == 61) && takes_equals first) ((b.byte == first) && doubles first) (stops_at (λ n. are_two first n.byte) rest b bs s e) in
    ap (λ t. sign_by t ((b.byte == first) && doubles first) from first b.place b.byte done) none.0 ∙ ap (λ t. sign_by false t from first b.place b.byte done) none.1)

shift_ends : (from : Place) (first second : ℕ) (rest : List MarkedByte) (done : List Token) → (second == first) ≡ true → shifts first ≡ true → Stops (λ o. are_three first second o.byte) rest
    → scan rest (m.Shift from first) done ≡ scan rest m.Between (with_symbol done from (first ∷ first ∷ []))
shift_ends from first second rest done same shift s =
    then_between (m.Shift from first) rest done (with_symbol done from (first ∷ first ∷ [])) refl (λ b bs e.
    ap (λ t. shift_by t from first b.place b.byte done) (not_third (b.byte == 61) ((second == first) && shifts first) (both_true (second == first) (shifts first) same shift) (stops_at (λ o. are_three first second o.byte) rest b bs s e))) where
      not_third : (t u : Bool) → u ≡ true → (t && u) ≡ false → t ≡ false
      not_third true u is e = absurd (let no : true ≡ false = sym is ∙ e in cc)
      not_third false u is e = refl

doubled_ends : (t : Bool) (b n : MarkedByte) (rest : List MarkedByte) (done : List Token) → shifts b.byte ≡ t → ((n.byte == 61) && takes_equals b.byte) ≡ false → (n.byte == b.byte) ≡ true → doubles b.byte ≡ true → Stops (λ o. are_three b.byte n.byte o.byte) rest
    → scan (n ∷ rest) (m.Sign b.place b.byte) done ≡ scan rest m.Between (with_symbol done b.place (b.byte ∷ b.byte ∷ []))
doubled_ends true b n rest done shift no_equals same double s =
    scan_goes n rest (m.Sign b.place b.byte) (m.Shift b.place b.byte) done done
    (ap (λ t. sign_by t ((n.byte == b.byte) && doubles b.byte) b.place b.byte n.place n.byte done) no_equals ∙ ap (λ t. sign_by false t b.place b.byte n.place n.byte done) (both_true (n.byte == b.byte) (doubles b.byte) same double) ∙ ap (λ t. doubled_by t b.place b.byte done) shift)
    ∙ shift_ends b.place b.byte n.byte rest done same shift s
doubled_ends false b n rest done shift no_equals same double s =
    scan_goes n rest (m.Sign b.place b.byte) m.Between done (with_symbol done b.place (b.byte ∷ b.byte ∷ []))
    (ap (λ t. sign_by t ((n.byte == b.byte) && doubles b.byte) b.place b.byte n.place n.byte done) no_equals ∙ ap (λ t. sign_by false t b.place b.byte n.place n.byte done) (both_true (n.byte == b.byte) (doubles b.byte) same double) ∙ ap (λ t. doubled_by t b.place b.byte done) shift)

pub two_by : (t u : Bool) (b n : MarkedByte) (rest : List MarkedByte) (done : List Token) → ((n.byte == 61) && takes_equals b.byte) ≡ t → ((n.byte == b.byte) && doubles b.byte) ≡ u → (t || u) ≡ true → Stops (λ o. are_three b.byte n.byte o.byte) rest
    → scan (n ∷ rest) (m.Sign b.place b.byte) done ≡ scan rest m.Between (with_symbol done b.place (b.byte ∷ n.byte ∷ []))
two_by true u b n rest done e f is s =
    let second : n.byte ≡ 61 = eqb-true n.byte 61 (both (n.byte == 61) (takes_equals b.byte) e).0 in
    scan_goes n rest (m.Sign b.place b.byte) m.Between done (with_symbol done b.place (b.byte ∷ 61 ∷ [])) (ap (λ t. sign_by t ((n.byte == b.byte) && doubles b.byte) b.place b.byte n.place n.byte done) e)
    ∙ ap (λ x. scan rest m.Between (with_symbol done b.place (b.byte ∷ x ∷ []))) (sym second)
two_by false true b n rest done e f is s =
    let parts = both (n.byte == b.byte) (doubles b.byte) f in
    doubled_ends (shifts b.byte) b n rest done refl e parts.0 parts.1 s ∙ ap (λ x. scan rest m.Between (with_symbol done b.place (b.byte ∷ x ∷ []))) (sym (eqb-true n.byte b.byte parts.0))
two_by false false b n rest done e f is s = absurd cc

three_run : (b n o : MarkedByte) (rest : List MarkedByte) (done : List Token) → are_three b.byte n.byte o.byte ≡ true → scan (n ∷ o ∷ rest) (m.Sign b.place b.byte) done ≡ scan rest m.Between (with_symbol done b.place (b.byte ∷ n.byte ∷ o.byte ∷ []))
three_run b n o rest done is =
    let third = both (o.byte == 61) ((n.byte == b.byte) && shifts b.byte) is in
    let second = both (n.byte == b.byte) (shifts b.byte) third.1 in
    let same : n.byte ≡ b.byte = eqb-true n.byte b.byte second.0 in
    let no_equals : (n.byte == 61) ≡ false = subst (λ x. (x == 61) ≡ false) (sym same) (shift_no_equals b.byte second.1) in
    scan_goes n (o ∷ rest) (m.Sign b.place b.byte) (m.Shift b.place b.byte) done done
    (ap (λ t. sign_by t ((n.byte == b.byte) && doubles b.byte) b.place b.byte n.place n.byte done) (left_false (n.byte == 61) (takes_equals b.byte) no_equals)
    ∙ ap (λ t. sign_by false t b.place b.byte n.place n.byte done) (both_true (n.byte == b.byte) (doubles b.byte) second.0 (shift_doubles b.byte second.1)) ∙ ap (λ t. doubled_by t b.place b.byte done) second.1)
    ∙ scan_goes o rest (m.Shift b.place b.byte) m.Between done (with_symbol done b.place (b.byte ∷ b.byte ∷ 61 ∷ [])) (ap (λ t. shift_by t b.place b.byte o.place o.byte done) third.0)
    ∙ ap (λ x. scan rest m.Between (with_symbol done b.place (b.byte ∷ x ∷ 61 ∷ []))) (sym same)
    ∙ ap (λ x. scan rest m.Between (with_symbol done b.place (b.byte ∷ n.byte ∷ x ∷ []))) (sym (eqb-true o.byte 61 third.0))

-- ---- all

pub whitespace_by : (k : Class) (at : Place) (b : ℕ) (done : List Token) → is_whitespace_class k ≡ true → begin_by k at b done ≡ Ok (m.Between, done)
whitespace_by c.Blank at b done h = refl
whitespace_by c.Break at b done h = refl
whitespace_by _ at b done h = absurd cc

none_by : (k : Class) (at : Place) (b : ℕ) (done : List Token) → begins_none_class k ≡ true → begin_by k at b done ≡ Err (bad_character at)
none_by c.Dot at b done h = refl
none_by c.Other at b done h = refl
none_by _ at b done h = absurd cc

module _ (text : List MarkedByte) where
  abbrev All : Result (List Token) Fault
  All = scan text m.Between []

  pub cuts : {done : List Token} {rest : List MarkedByte} → Cut text done rest → All ≡ scan rest m.Between done
  cuts g.begun = refl
  cuts (g.a_blank {done = done} {m = b} {rest = rest} cut is) = cuts cut ∙ begins_by m.Between b rest done done (whitespace_by (class b) b.place b.byte done is)
  cuts (g.a_line {done = done} {a = a} {b = b} {rest = rest} w cut first second each s) =
      cuts cut ∙ to_slash a (b ∷ w ++ rest) done first ∙ scan_goes b (w ++ rest) (m.Slash a.place) m.Line done done (ap (λ k. slash_by k a.place b.place b.byte done) second) ∙ line_run w rest done each ∙ line_ends rest done s
  cuts (g.a_block {done = done} {a = a} {b = b} {e = e} {bytes = bytes} {rest = rest} cut first second inside slash) =
      cuts cut ∙ to_block a b bytes done first second ∙ inside_run inside a.place done ∙ scan_goes e rest (m.Star a.place) m.Between done done (ap (λ k. star_by k a.place done) slash)
  cuts (g.a_name {done = done} {path = path} {from = from} {name = name} {rest = rest} w cut is ends) = cuts cut ∙ name_run is rest done ∙ names_end from path name rest done ends
  cuts (g.a_root {done = done} {m = b} {rest = rest} cut is s) =
      cuts cut ∙ begins c.Backslash (m.Root b.place) b rest done done is refl
      ∙ then_between (m.Root b.place) rest done (with_name done true b.place (92 ∷ [])) refl (λ x xs e. root_out (class x) b.place x.place x.byte done (stops_at begins_name rest x xs s e))
  cuts (g.a_zero {done = done} {m = b} {rest = rest} cut is no_digit no_x none) = cuts cut ∙ begins c.Zero (m.Zero b.place) b rest done done is refl ∙ zero_ends b.place rest done no_digit no_x none
  cuts (g.a_number {done = done} {radix = radix} {from = from} {value = value} {rest = rest} w cut is small no_digit none) =
      cuts cut ∙ (numeral_run is rest done).small small ∙ number_ends from radix value (end_of w) rest done no_digit none
  cuts (g.a_string {done = done} {q = q} {e = e} {string = string} {bytes = bytes} {rest = rest} cut is content ends) =
      cuts cut ∙ begins c.Quote (m.Text q.place []) q bytes done done is refl ∙ content_run content q.place done
      ∙ scan_goes e rest (m.Text q.place string) m.Between done (with_string done q.place (end_at e.place) string) (ap (λ k. text_by k q.place string e.place e.byte done) ends)
  cuts (g.a_caret {done = done} {m = b} {rest = rest} cut is no_equals no_name) = cuts cut ∙ caret_run b rest done is no_equals no_name
  cuts (g.caret_equals {done = done} {m = b} {e = e} {rest = rest} cut is equals) =
      cuts cut ∙ begins c.Caret (m.Carets [] b.place) b (e ∷ rest) done done is refl
      ∙ scan_goes e rest (m.Carets [] b.place) m.Between done (with_symbol done b.place (94 ∷ 61 ∷ [])) (ap (λ k. carets_by k [] b.place e.place e.byte done) equals)
  cuts (g.a_slash {done = done} {m = b} {rest = rest} cut is s) =
      cuts cut ∙ to_slash b rest done is
      ∙ then_between (m.Slash b.place) rest done (with_symbol done b.place (47 ∷ [])) refl (λ x xs e. slash_out (class x) b.place x.place x.byte done (stops_at behind_slash rest x xs s e))
  cuts (g.slash_equals {done = done} {m = b} {e = e} {rest = rest} cut is equals) =
      cuts cut ∙ to_slash b (e ∷ rest) done is ∙ scan_goes e rest (m.Slash b.place) m.Between done (with_symbol done b.place (47 ∷ 61 ∷ [])) (ap (λ k. slash_by k b.place e.place e.byte done) equals)
  cuts (g.one_sign {done = done} {m = b} {rest = rest} cut is s) = cuts cut ∙ to_sign b rest done is ∙ sign_ends b.place b.byte rest done s
  cuts (g.two_signs {done = done} {m = b} {n = n} {rest = rest} cut is two s) =
      cuts cut ∙ to_sign b (n ∷ rest) done is ∙ two_by ((n.byte == 61) && takes_equals b.byte) ((n.byte == b.byte) && doubles b.byte) b n rest done refl refl two s
  cuts (g.three_signs {done = done} {m = b} {n = n} {o = o} {rest = rest} cut is three) = cuts cut ∙ to_sign b (n ∷ o ∷ rest) done is ∙ three_run b n o rest done three

  pub cut_is_scanned : (tokens : List Token) → Cut text tokens [] → All ≡ Ok tokens
  unfolding scan
  cut_is_scanned tokens cut = cuts cut

prefix_faults : (from x : Place) (rest : List MarkedByte) (done : List Token) → Stops (digit_in 16) rest → scan rest (m.Prefix from x) done ≡ Err (bad_character x)
unfolding scan
prefix_faults from x [] done s = refl
prefix_faults from x (b ∷ rest) done s = faults b rest (m.Prefix from x) done (bad_character x) (ap (λ t. prefix_by t from x b.place b.byte done) s)

bad_is : {rest : List MarkedByte} {x : Fault} → Bad rest x → (done : List Token) → scan rest m.Between done ≡ Err x
bad_is (g.no_token {m = b} {rest = rest} is) done = faults b rest m.Between done (bad_character b.place) (begin_is (class b) b done refl ∙ none_by (class b) b.place b.byte done is)
bad_is (g.large w rest is large) done = (numeral_run is rest done).large large
bad_is (g.behind_numeral {radix = radix} {from = from} {value = value} w b rest is small no_digit behind) done =
    (numeral_run is (b ∷ rest) done).small small
    ∙ faults b rest (m.Number from radix value (end_of w)) done (bad_character b.place) (ap (λ t. number_by t from radix value (end_of w) b.place b.byte done) no_digit ∙ behind_in (class b) from value (end_of w) b.place b.byte done behind)
bad_is (g.behind_zero {z = z} {m = b} {rest = rest} zero no_digit no_x behind) done =
    begins c.Zero (m.Zero z.place) z (b ∷ rest) done done zero refl ∙ faults b rest (m.Zero z.place) done (bad_character b.place) (zero_is z.place b done no_digit no_x ∙ behind_in (class b) z.place 0 (end_at z.place) b.place b.byte done behind)
bad_is (g.no_hexadecimal {z = z} {x = x} {rest = rest} zero ex s) done =
    begins c.Zero (m.Zero z.place) z (x ∷ rest) done done zero refl
    ∙ scan_goes x rest (m.Zero z.place) (m.Prefix z.place x.place) done done (ap (λ t. zero_by t (x.byte == 120) z.place x.place x.byte done) (x_no_digit x.byte ex) ∙ ap (λ u. zero_by false u z.place x.place x.byte done) ex)
    ∙ prefix_faults z.place x.place rest done s
bad_is (g.string_open {q = q} {string = string} {bytes = bytes} is content ends) done =
    begins c.Quote (m.Text q.place []) q bytes done done is refl ∙ content_run content q.place done ∙ breaks ends string q.place done
bad_is (g.string_bad {q = q} {e = e} {fault = fault} {bytes = bytes} {rest = rest} is content ends) done =
    begins c.Quote (m.Text q.place []) q bytes done done is refl ∙ content_run content q.place done ∙ faults e rest (m.Broken q.place fault) done fault (ap (λ k. broken_by k q.place fault done) ends)
bad_is (g.comment_open {a = a} {b = b} {s = s} {bytes = bytes} first second inside) done = to_block a b bytes done first second ∙ inside_run inside a.place done ∙ blocked_end s a.place done

pub fault_is_scanned : (text : List MarkedByte) (x : Fault) → FailsWith text x → scan text m.Between [] ≡ Err x
fault_is_scanned text x h = cuts text h.cut ∙ bad_is h.bad h.done
