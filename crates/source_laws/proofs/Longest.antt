-- Where a token is cut off, no longer front of what was left is a token.
use Rattle.std.proofs.Common.{◌≡◌, ℕ, Bool, true, false, cond, List, [], ◌∷◌, ◌++◌, refl, sym, ap, subst, ◌∙◌, append_assoc, append-nil, inl, inr, ◌⊎◌}
use Rattle.std.specs.Prelude.{◌==◌, ◌&&◌}
use Rattle.iasl_messages.specs.declared.place.Place.{Place}
use Rattle.std.proofs.lemmas.List.{append_cancel_right}
use Rattle.asl_lexer.specs.declared.class.Class.{Class}
use Rattle.asl_lexer.specs.declared.class.Class.TheVariants as c
use Rattle.asl_lexer.specs.declared.class.Radix.{Radix}
use Rattle.asl_lexer.specs.declared.class.Radix.TheVariants.{Octal, Decimal, Hexadecimal}
use Rattle.asl_lexer.specs.declared.token.Token.{Token}
use Rattle.asl_lexer.specs.Class.{base_of, doubles, shifts, takes_equals}
use Rattle.asl_lexer.specs.Scan.{MarkedByte}
use Rattle.asl_lexer.specs.Cut.{Each, Stops, class, in_name_class, begins_name_class, behind_slash_class, begins_sign_class, is_caret_class, is_equals_class, in_name, begins_name, behind_slash, is_caret, is_equals, is_x, digit_in, places, IsName, EndsName, no_name_by, no_name_behind, IsNumeral, Content, Inside, are_two, are_three, Cut, is_whitespace_class}
use Rattle.asl_lexer.specs.Cut as g
use Rattle.asl_lexer.proofs.Bits.{both, x_no_digit, either_true, both_true, shift_doubles}
use Rattle.source_laws.specs.Parts.{IsToken, NoLonger, IsComment, BeginsComment, Part, Parts, tokens_in}
use Rattle.source_laws.specs.Parts as p
use Rattle.source_laws.proofs.Bytes.{byte_is}
use Rattle.source_laws.proofs.Strings.{Inner, content_stays, content_cut}

-- ---- the way through the bytes of a token

data Way : Type 0 where
  start name dot root caret carets zero prefix string escape closed slash whole none : Way
  digits : Radix → Way
  sign : ℕ → Way
  two : ℕ → ℕ → Way

abbrev begin : Class → ℕ → Way
begin c.Letter b = name
begin c.Underscore b = name
begin c.Zero b = zero
begin c.Digit b = digits Decimal
begin c.Backslash b = root
begin c.Caret b = caret
begin c.Quote b = string
begin c.Slash b = slash
begin c.Star b = sign b
begin c.Equals b = sign b
begin c.Sign b = sign b
begin _ b = none

abbrev is_dot : Class → Bool
is_dot c.Dot = true
is_dot _ = false

abbrev next : Way → MarkedByte → Way
next start m = begin (class m) m.byte
next name m = cond (in_name m) name (cond (is_dot (class m)) dot none)
next dot m = cond (begins_name m) name none
next root m = cond (begins_name m) name none
next caret m = cond (is_caret m) carets (cond (begins_name m) name (cond (is_equals m) whole none))
next carets m = cond (is_caret m) carets (cond (begins_name m) name none)
next zero m = cond (digit_in 8 m) (digits Octal) (cond (is_x m) prefix none)
next prefix m = cond (digit_in 16 m) (digits Hexadecimal) none
next (digits radix) m = cond (digit_in (base_of radix) m) (digits radix) none
next string m = cond (m.byte == 34) closed (cond (m.byte == 92) escape string)
next escape m = string
next slash m = cond (is_equals m) whole none
next (sign b) m = cond (are_two b m.byte) (two b m.byte) none
next (two b n) m = cond (are_three b n m.byte) whole none
next closed m = none
next whole m = none
next none m = none

abbrev go : Way → List MarkedByte → Way
go s [] = s
go s (m ∷ ms) = go (next s m) ms

go_on : (s : Way) (xs ys : List MarkedByte) → go s (xs ++ ys) ≡ go (go s xs) ys
go_on s [] ys = refl
go_on s (x ∷ xs) ys = go_on (next s x) xs ys

-- where a token may end
abbrev Ends : Way → Type 0
Ends start = ⊥
Ends name = Unit {0}
Ends dot = ⊥
Ends root = Unit {0}
Ends caret = Unit {0}
Ends carets = ⊥
Ends zero = Unit {0}
Ends prefix = ⊥
Ends string = ⊥
Ends escape = ⊥
Ends closed = Unit {0}
Ends slash = Unit {0}
Ends whole = Unit {0}
Ends none = ⊥
Ends (digits radix) = Unit {0}
Ends (sign b) = Unit {0}
Ends (two b n) = Unit {0}

never : (ms : List MarkedByte) → Ends (go none ms) → ⊥
never [] h = h
never (m ∷ ms) h = never ms h

-- ---- each token goes such a way

begin_name : (k : Class) (b : ℕ) → begins_name_class k ≡ true → begin k b ≡ name
begin_name c.Letter b h = refl
begin_name c.Underscore b h = refl
begin_name _ b h = absurd cc

begin_sign : (k : Class) (b : ℕ) → begins_sign_class k ≡ true → begin k b ≡ sign b
begin_sign c.Star b h = refl
begin_sign c.Equals b h = refl
begin_sign c.Sign b h = refl
begin_sign _ b h = absurd cc

begins_no_caret : (k : Class) → begins_name_class k ≡ true → is_caret_class k ≡ false
begins_no_caret c.Caret h = absurd cc
begins_no_caret _ h = refl

caret_class : (k : Class) → is_caret_class k ≡ true → k ≡ c.Caret
caret_class c.Caret h = refl
caret_class _ h = absurd cc

more_carets : (ms : List MarkedByte) → Each is_caret ms → go carets ms ≡ carets
more_carets [] h = refl
more_carets (m ∷ ms) h = ap (λ t. go (cond t carets (cond (begins_name m) name none)) ms) h.0 ∙ more_carets ms h.1

carets_to_name : (m : MarkedByte) → begins_name m ≡ true → next carets m ≡ name
carets_to_name m h = ap (λ t. cond t carets (cond (begins_name m) name none)) (begins_no_caret (class m) h) ∙ ap (λ t. cond t name none) h

caret_to_name : (m : MarkedByte) → begins_name m ≡ true → next caret m ≡ name
caret_to_name m h = ap (λ t. cond t carets (cond (begins_name m) name (cond (is_equals m) whole none))) (begins_no_caret (class m) h) ∙ ap (λ t. cond t name (cond (is_equals m) whole none)) h

raised_way : (before : List Place) (last : Place) (cs : List MarkedByte) (m : MarkedByte) → Each is_caret cs → places cs ≡ before ++ last ∷ [] → begins_name m ≡ true → go start (cs ++ m ∷ []) ≡ name
raised_way [] last [] m each at h = absurd cc
raised_way (q ∷ before) last [] m each at h = absurd cc
raised_way before last (x ∷ []) m each at h = ap (λ k. next (begin k x.byte) m) (caret_class (class x) each.0) ∙ caret_to_name m h
raised_way before last (x ∷ y ∷ cs) m each at h =
    ap (λ k. go (next (begin k x.byte) y) (cs ++ m ∷ [])) (caret_class (class x) each.0)
    ∙ ap (λ t. go (cond t carets (cond (begins_name y) name (cond (is_equals y) whole none))) (cs ++ m ∷ [])) each.1.0
    ∙ go_on carets cs (m ∷ []) ∙ ap (λ s. next s m) (more_carets cs each.1.1) ∙ carets_to_name m h

name_way : {path : Bool} {from : Place} {text : List ℕ} {w : List MarkedByte} → IsName path from text w → go start w ≡ name
name_way (g.IsName.word {m = m} is) = begin_name (class m) m.byte is
name_way (g.IsName.rooted {r = r} {m = m} root_is is) = ap (λ k. next (begin k r.byte) m) root_is ∙ ap (λ t. cond t name none) is
name_way (g.IsName.raised before last cs m each at is) = raised_way before last cs m each at is
name_way (g.IsName.more {w = w} m front is) = go_on start w (m ∷ []) ∙ ap (λ s. next s m) (name_way front) ∙ ap (λ t. cond t name (cond (is_dot (class m)) dot none)) is
name_way (g.IsName.dotted {w = w} d m front dot_is is) =
    go_on start w (d ∷ m ∷ []) ∙ ap (λ s. next (next s d) m) (name_way front)
    ∙ ap (λ k. next (cond (in_name_class k) name (cond (is_dot k) dot none)) m) dot_is ∙ ap (λ t. cond t name none) is

number_way : {radix : Radix} {from : Place} {value : ℕ} {w : List MarkedByte} → IsNumeral radix from value w → go start w ≡ digits radix
number_way (g.IsNumeral.decimal {m = m} is) = ap (λ k. begin k m.byte) is
number_way (g.IsNumeral.octal {z = z} {m = m} zero_is is) = ap (λ k. next (begin k z.byte) m) zero_is ∙ ap (λ t. cond t (digits Octal) (cond (is_x m) prefix none)) is
number_way (g.IsNumeral.hexadecimal {z = z} {x = x} {m = m} zero_is is_x is) =
    ap (λ k. next (next (begin k z.byte) x) m) zero_is ∙ ap (λ t. next (cond t (digits Octal) (cond (x.byte == 120) prefix none)) m) (x_no_digit x.byte is_x)
    ∙ ap (λ t. next (cond t prefix none) m) is_x ∙ ap (λ t. cond t (digits Hexadecimal) none) is
number_way (g.IsNumeral.more {radix = radix} {w = w} m front is) = go_on start w (m ∷ []) ∙ ap (λ s. next s m) (number_way front) ∙ ap (λ t. cond t (digits radix) none) is

abbrev inside : Bool → Way
inside protected = cond protected escape string

inner_way : (protected : Bool) (w : List MarkedByte) → Inner protected w → go (inside protected) w ≡ string
inner_way protected [] h = ap inside h
inner_way true (m ∷ w) h = inner_way false w h.1
inner_way false (m ∷ w) h = ap (λ t. go (cond t closed (inside (m.byte == 92))) w) h.1 ∙ inner_way (m.byte == 92) w h.2

string_way : (q e : MarkedByte) (w : List MarkedByte) → class q ≡ c.Quote → Inner false w → class e ≡ c.Quote → go start (q ∷ w ++ e ∷ []) ≡ closed
string_way q e w opens inner closes =
    ap (λ k. go (begin k q.byte) (w ++ e ∷ [])) opens ∙ go_on string w (e ∷ []) ∙ ap (λ s. next s e) (inner_way false w inner)
    ∙ ap (λ t. cond t closed (cond (e.byte == 92) escape string)) (byte_is c.Quote e.byte closes)

ends_at : (s t : Way) → s ≡ t → Ends t → Ends s
ends_at s t e h = subst Ends (sym e) h

two_way : (m n : MarkedByte) → begins_sign_class (class m) ≡ true → are_two m.byte n.byte ≡ true → go start (m ∷ n ∷ []) ≡ two m.byte n.byte
two_way m n sign_is both_are = ap (λ s. next s n) (begin_sign (class m) m.byte sign_is) ∙ ap (λ t. cond t (two m.byte n.byte) none) both_are

pub three_are_two : (b n o : ℕ) → are_three b n o ≡ true → are_two b n ≡ true
three_are_two b n o h =
    let parts = both (o == 61) (n == b && shifts b) h in
    let same = both (n == b) (shifts b) parts.1 in
    either_true (n == 61 && takes_equals b) (n == b && doubles b) (both_true (n == b) (doubles b) same.0 (shift_doubles b same.1))

token_ends : {t : Token} {w : List MarkedByte} → IsToken t w → Ends (go start w)
token_ends (p.a_name {w = w} is) = ends_at (go start w) name (name_way is) tt
token_ends (p.a_root {m = m} is) = ends_at (begin (class m) m.byte) root (ap (λ k. begin k m.byte) is) tt
token_ends (p.a_zero {m = m} is) = ends_at (begin (class m) m.byte) zero (ap (λ k. begin k m.byte) is) tt
token_ends (p.a_number {radix = radix} {w = w} is fits) = ends_at (go start w) (digits radix) (number_way is) tt
token_ends (p.a_string {q = q} {e = e} w opens content closes) =
    let s = content_stays content in
    ends_at (go start (q ∷ w ++ e ∷ [])) closed (string_way q e w opens (subst (Inner false) (sym (append_cancel_right w s.front (e ∷ []) s.is)) s.inner) closes) tt
token_ends (p.a_caret {m = m} is) = ends_at (begin (class m) m.byte) caret (ap (λ k. begin k m.byte) is) tt
token_ends (p.caret_equals {m = m} {e = e} is equals) = ends_at (next (begin (class m) m.byte) e) whole (ap (λ k. next (begin k m.byte) e) is ∙ ap (λ k. cond (is_caret_class k) carets (cond (begins_name_class k) name (cond (is_equals_class k) whole none))) equals) tt
token_ends (p.a_slash {m = m} is) = ends_at (begin (class m) m.byte) slash (ap (λ k. begin k m.byte) is) tt
token_ends (p.slash_equals {m = m} {e = e} is equals) = ends_at (next (begin (class m) m.byte) e) whole (ap (λ k. next (begin k m.byte) e) is ∙ ap (λ k. cond (is_equals_class k) whole none) equals) tt
token_ends (p.one_sign {m = m} is) = ends_at (begin (class m) m.byte) (sign m.byte) (begin_sign (class m) m.byte is) tt
token_ends (p.two_signs {m = m} {n = n} is both_are) = ends_at (go start (m ∷ n ∷ [])) (two m.byte n.byte) (two_way m n is both_are) tt
token_ends (p.three_signs {m = m} {n = n} {o = o} is all_are) =
    ends_at (go start (m ∷ n ∷ o ∷ [])) whole (ap (λ s. next s o) (two_way m n is (three_are_two m.byte n.byte o.byte all_are)) ∙ ap (λ t. cond t whole none) all_are) tt

-- ---- and where one is cut off, the way goes on to no end

-- the bytes behind lead to no end
abbrev Stuck : Way → List MarkedByte → Type 0
Stuck s rest = (m : MarkedByte) (ms behind : List MarkedByte) → rest ≡ m ∷ ms ++ behind → Ends (go s (m ∷ ms)) → ⊥

longest : (w rest : List MarkedByte) (s : Way) → go start w ≡ s → Stuck s rest → NoLonger w rest
longest w rest s at stuck [] behind other e is = refl
longest w rest s at stuck (m ∷ ms) behind other e is =
    absurd (stuck m ms behind e (subst Ends (go_on start w (m ∷ ms) ∙ ap (λ z. go z (m ∷ ms)) at) (token_ends is)))

-- where the next byte leads nowhere
nowhere : (s : Way) (rest : List MarkedByte) (q : MarkedByte → Bool) → Stops q rest → ((m : MarkedByte) → q m ≡ false → next s m ≡ none) → Stuck s rest
nowhere s rest q stops leads m ms behind e h =
    let no : q m ≡ false = subst (Stops q) e stops in
    never ms (subst (λ z. Ends (go z ms)) (leads m no) h)

closed_stuck : (rest : List MarkedByte) → Stuck closed rest
closed_stuck rest m ms behind e h = never ms h

whole_stuck : (rest : List MarkedByte) → Stuck whole rest
whole_stuck rest m ms behind e h = never ms h

dot_class : (k : Class) → is_dot k ≡ true → k ≡ c.Dot
dot_class c.Dot h = refl
dot_class _ h = absurd cc

dot_stuck : (ms behind : List MarkedByte) → Stops begins_name (ms ++ behind) → Ends (go dot ms) → ⊥
dot_stuck [] behind stops h = h
dot_stuck (m ∷ ms) behind stops h = never ms (subst (λ t. Ends (go (cond t name none) ms)) stops h)

name_stuck : (rest : List MarkedByte) → EndsName rest → Stuck name rest
name_stuck rest ends m ms behind e h =
    let here : EndsName (m ∷ ms ++ behind) = subst EndsName e ends in
    by (is_dot (class m)) refl here.1 (subst (λ t. Ends (go (cond t name (cond (is_dot (class m)) dot none)) ms)) here.0 h)
  where
    by : (t : Bool) → is_dot (class m) ≡ t → (class m ≡ c.Dot → Stops begins_name (ms ++ behind)) → Ends (go (cond (is_dot (class m)) dot none) ms) → ⊥
    by true is stops h = dot_stuck ms behind (stops (dot_class (class m) is)) (subst (λ t. Ends (go (cond t dot none) ms)) is h)
    by false is stops h = never ms (subst (λ t. Ends (go (cond t dot none) ms)) is h)

carets_stuck : (ms behind : List MarkedByte) → no_name_behind (ms ++ behind) ≡ true → Ends (go carets ms) → ⊥
carets_stuck [] behind none_here h = h
carets_stuck (m ∷ ms) behind none_here h = by (class m) refl (carets_stuck ms behind)
  where
    leads : (k : Class) → class m ≡ k → Ends (go (cond (is_caret_class k) carets (cond (begins_name_class k) name none)) ms)
    leads k is = subst (λ j. Ends (go (cond (is_caret_class j) carets (cond (begins_name_class j) name none)) ms)) is h

    told : (k : Class) → class m ≡ k → no_name_by k (no_name_behind (ms ++ behind)) ≡ true
    told k is = subst (λ j. no_name_by j (no_name_behind (ms ++ behind)) ≡ true) is none_here

    by : (k : Class) → class m ≡ k → (no_name_behind (ms ++ behind) ≡ true → Ends (go carets ms) → ⊥) → ⊥
    by c.Caret is below = below (told c.Caret is) (leads c.Caret is)
    by c.Letter is below = let no_name = told c.Letter is in cc
    by c.Underscore is below = let no_name = told c.Underscore is in cc
    by c.Blank is below = never ms (leads c.Blank is)
    by c.Break is below = never ms (leads c.Break is)
    by c.Zero is below = never ms (leads c.Zero is)
    by c.Digit is below = never ms (leads c.Digit is)
    by c.Dot is below = never ms (leads c.Dot is)
    by c.Backslash is below = never ms (leads c.Backslash is)
    by c.Quote is below = never ms (leads c.Quote is)
    by c.Slash is below = never ms (leads c.Slash is)
    by c.Star is below = never ms (leads c.Star is)
    by c.Equals is below = never ms (leads c.Equals is)
    by c.Sign is below = never ms (leads c.Sign is)
    by c.Other is below = never ms (leads c.Other is)

caret_stuck : (rest : List MarkedByte) → Stops is_equals rest → no_name_behind rest ≡ true → Stuck caret rest
caret_stuck rest stops no_word m ms behind e h = by (class m) refl
  where
    no_equals : is_equals m ≡ false
    no_equals = subst (Stops is_equals) e stops

    leads : (k : Class) → class m ≡ k → Ends (go (cond (is_caret_class k) carets (cond (begins_name_class k) name (cond (is_equals m) whole none))) ms)
    leads k is = subst (λ j. Ends (go (cond (is_caret_class j) carets (cond (begins_name_class j) name (cond (is_equals m) whole none))) ms)) is h

    told : (k : Class) → class m ≡ k → no_name_by k (no_name_behind (ms ++ behind)) ≡ true
    told k is = subst (λ j. no_name_by j (no_name_behind (ms ++ behind)) ≡ true) is (subst (λ r. no_name_behind r ≡ true) e no_word)

    ends : Ends (go (cond (is_equals m) whole none) ms) → ⊥
    ends i = never ms (subst (λ t. Ends (go (cond t whole none) ms)) no_equals i)

    by : (k : Class) → class m ≡ k → ⊥
    by c.Caret is = carets_stuck ms behind (told c.Caret is) (leads c.Caret is)
    by c.Letter is = let no_name = told c.Letter is in cc
    by c.Underscore is = let no_name = told c.Underscore is in cc
    by c.Blank is = ends (leads c.Blank is)
    by c.Break is = ends (leads c.Break is)
    by c.Zero is = ends (leads c.Zero is)
    by c.Digit is = ends (leads c.Digit is)
    by c.Dot is = ends (leads c.Dot is)
    by c.Backslash is = ends (leads c.Backslash is)
    by c.Quote is = ends (leads c.Quote is)
    by c.Slash is = ends (leads c.Slash is)
    by c.Star is = ends (leads c.Star is)
    by c.Equals is = ends (leads c.Equals is)
    by c.Sign is = ends (leads c.Sign is)
    by c.Other is = ends (leads c.Other is)

zero_stuck : (rest : List MarkedByte) → Stops (digit_in 8) rest → Stops is_x rest → Stuck zero rest
zero_stuck rest no_digit no_x m ms behind e h =
    let octal : digit_in 8 m ≡ false = subst (Stops (digit_in 8)) e no_digit in
    let x : is_x m ≡ false = subst (Stops is_x) e no_x in
    never ms (subst (λ t. Ends (go (cond t prefix none) ms)) x (subst (λ t. Ends (go (cond t (digits Octal) (cond (is_x m) prefix none)) ms)) octal h))

no_equals_behind : (k : Class) → behind_slash_class k ≡ false → is_equals_class k ≡ false
no_equals_behind c.Equals h = absurd cc
no_equals_behind _ h = refl

-- ---- and where one is cut off, no comment begins

abbrev SlashWay : Way → Type 0
SlashWay slash = Unit {0}
SlashWay whole = Unit {0}
SlashWay none = Unit {0}
SlashWay _ = ⊥

none_leads : (ms : List MarkedByte) → SlashWay (go none ms)
none_leads [] = tt
none_leads (m ∷ ms) = none_leads ms

whole_leads : (ms : List MarkedByte) → SlashWay (go whole ms)
whole_leads [] = tt
whole_leads (m ∷ ms) = none_leads ms

slash_leads : (ms : List MarkedByte) → SlashWay (go slash ms)
slash_leads [] = tt
slash_leads (m ∷ ms) = by (is_equals m)
  where
    by : (t : Bool) → SlashWay (go (cond t whole none) ms)
    by true = whole_leads ms
    by false = none_leads ms

abbrev FirstIs : Class → List MarkedByte → Type 0
FirstIs k [] = ⊥
FirstIs k (m ∷ ms) = class m ≡ k

comment_slash : (ms : List MarkedByte) → BeginsComment ms → FirstIs c.Slash ms
comment_slash [] h = absurd h
comment_slash (m ∷ []) h = absurd h
comment_slash (m ∷ n ∷ ms) h = h.0

-- what does not begin with a slash
no_slash : (k : Class) (m : MarkedByte) (ms : List MarkedByte) → class m ≡ k → (k ≡ c.Slash → ⊥) → BeginsComment (m ∷ ms) → ⊥
no_slash k m ms is other h = other (sym is ∙ comment_slash (m ∷ ms) h)

no_comment : (w rest : List MarkedByte) (s : Way) → go start w ≡ s → (SlashWay s → ⊥) → (start ≡ s → ⊥) → BeginsComment (w ++ rest) → ⊥
no_comment [] rest s at other some h = some at
no_comment (m ∷ w) rest s at other some h = other (subst SlashWay (sym (ap (λ k. go (begin k m.byte) w) (comment_slash (m ∷ w ++ rest) h)) ∙ at) (slash_leads w))

begins_no_slash : (k : Class) → begins_sign_class k ≡ true → k ≡ c.Slash → ⊥
begins_no_slash k h e = let both = sym h ∙ ap begins_sign_class e in cc

slash_alone : (m : MarkedByte) (rest : List MarkedByte) → Stops behind_slash rest → BeginsComment (m ∷ rest) → ⊥
slash_alone m [] stops h = h
slash_alone m (n ∷ rest) stops h = by h.1
  where
    by : (class n ≡ c.Slash) ⊎ (class n ≡ c.Star) → ⊥
    by (inl e) = let both = sym stops ∙ ap behind_slash_class e in cc
    by (inr e) = let both = sym stops ∙ ap behind_slash_class e in cc

equals_behind : (m e : MarkedByte) (rest : List MarkedByte) → class e ≡ c.Equals → BeginsComment (m ∷ e ∷ rest) → ⊥
equals_behind m e rest is h = by h.1
  where
    by : (class e ≡ c.Slash) ⊎ (class e ≡ c.Star) → ⊥
    by (inl f) = let both = sym is ∙ f in cc
    by (inr f) = let both = sym is ∙ f in cc

-- ---- parts

-- what stands in a block comment is the front of what stood there
inside_front : {s : Bool} {bytes rest : List MarkedByte} → Inside s bytes rest → (w : List MarkedByte) × (bytes ≡ w ++ rest)
inside_front g.Inside.opened = ([], refl)
inside_front (g.Inside.a_star {m = m} {rest = rest} inside star) = let f = inside_front inside in (f.0 ++ m ∷ [], f.1 ∙ sym (append_assoc f.0 (m ∷ []) rest))
inside_front (g.Inside.no_star {m = m} {rest = rest} inside other) = let f = inside_front inside in (f.0 ++ m ∷ [], f.1 ∙ sym (append_assoc f.0 (m ∷ []) rest))
inside_front (g.Inside.behind_star {m = m} {rest = rest} inside other no_slash) = let f = inside_front inside in (f.0 ++ m ∷ [], f.1 ∙ sym (append_assoc f.0 (m ∷ []) rest))

-- the parts of a front that was cut into tokens
pub record Parted (text : List MarkedByte) (done : List Token) (rest : List MarkedByte) : Type 0 where
  pub parts : List Part
  pub is : Parts text parts rest
  pub tokens : tokens_in parts ≡ done

tokens_on : (parts : List Part) (more : List Part) → tokens_in (parts ++ more) ≡ tokens_in parts ++ tokens_in more
tokens_on [] more = refl
tokens_on (p.Blank m ∷ parts) more = tokens_on parts more
tokens_on (p.Comment w ∷ parts) more = tokens_on parts more
tokens_on (p.Whole t w ∷ parts) more = ap (λ l. t ∷ l) (tokens_on parts more)

with_blank : {text : List MarkedByte} {done : List Token} {m : MarkedByte} {rest : List MarkedByte} → is_whitespace_class (class m) ≡ true → Parted text done (m ∷ rest) → Parted text done rest
with_blank {done = done} {m = m} blank q = record { parts = q.parts ++ p.Blank m ∷ []; is = p.a_blank q.is blank; tokens = tokens_on q.parts (p.Blank m ∷ []) ∙ append-nil (tokens_in q.parts) ∙ q.tokens }

with_comment : {text : List MarkedByte} {done : List Token} {rest : List MarkedByte} (w bytes : List MarkedByte) → bytes ≡ w ++ rest → IsComment w rest → Parted text done bytes → Parted text done rest
with_comment {text} w bytes e is q = record { parts = q.parts ++ p.Comment w ∷ []; is = p.a_comment w (subst (λ b. Parts text q.parts b) e q.is) is; tokens = tokens_on q.parts (p.Comment w ∷ []) ∙ append-nil (tokens_in q.parts) ∙ q.tokens }

with_token : {text : List MarkedByte} {done : List Token} {rest : List MarkedByte} (w bytes : List MarkedByte) (t : Token) → bytes ≡ w ++ rest → (BeginsComment (w ++ rest) → ⊥) → IsToken t w → NoLonger w rest → Parted text done bytes → Parted text (done ++ t ∷ []) rest
with_token {text} w bytes t e comment is longer q = record { parts = q.parts ++ p.Whole t w ∷ []; is = p.a_token w t (subst (λ b. Parts text q.parts b) e q.is) comment is longer; tokens = tokens_on q.parts (p.Whole t w ∷ []) ∙ ap (λ l. l ++ t ∷ []) q.tokens }

pub parted : {text : List MarkedByte} {done : List Token} {rest : List MarkedByte} → Cut text done rest → Parted text done rest
parted g.Cut.begun = record { parts = []; is = p.begun; tokens = refl }
parted (g.Cut.a_blank cut blank) = with_blank blank (parted cut)
parted (g.Cut.a_line {a = a} {b = b} {rest = rest} w cut sa sb each stops) = with_comment (a ∷ b ∷ w) (a ∷ b ∷ w ++ rest) refl (p.a_line sa sb each stops) (parted cut)
parted (g.Cut.a_block {a = a} {b = b} {e = e} {bytes = bytes} {rest = rest} cut sa sb inside ends) =
    let f = inside_front inside in
    with_comment (a ∷ b ∷ f.0 ++ e ∷ []) (a ∷ b ∷ bytes) (ap (λ l. a ∷ b ∷ l) (f.1 ∙ sym (append_assoc f.0 (e ∷ []) rest))) (p.a_block f.0 sa sb (subst (λ l. Inside true l (e ∷ rest)) f.1 inside) ends) (parted cut)
parted (g.Cut.a_name {path = path} {from = from} {name = text} {rest = rest} w cut is ends) =
    with_token w (w ++ rest) _ refl (no_comment w rest name (name_way is) (λ h. h) (λ h. cc)) (p.a_name is) (longest w rest name (name_way is) (name_stuck rest ends)) (parted cut)
parted (g.Cut.a_root {m = m} {rest = rest} cut is stops) =
    with_token (m ∷ []) (m ∷ rest) _ refl (no_slash c.Backslash m rest is (λ h. cc)) (p.a_root is) (longest (m ∷ []) rest root (ap (λ k. begin k m.byte) is) (nowhere root rest begins_name stops (λ n h. ap (λ t. cond t name none) h))) (parted cut)
parted (g.Cut.a_zero {m = m} {rest = rest} cut is no_digit no_x no_more) =
    with_token (m ∷ []) (m ∷ rest) _ refl (no_slash c.Zero m rest is (λ h. cc)) (p.a_zero is) (longest (m ∷ []) rest zero (ap (λ k. begin k m.byte) is) (zero_stuck rest no_digit no_x)) (parted cut)
parted (g.Cut.a_number {radix = radix} {rest = rest} w cut is fits stops no_more) =
    with_token w (w ++ rest) _ refl (no_comment w rest (digits radix) (number_way is) (λ h. h) (λ h. cc)) (p.a_number is fits) (longest w rest (digits radix) (number_way is) (nowhere (digits radix) rest (digit_in (base_of radix)) stops (λ n h. ap (λ t. cond t (digits radix) none) h))) (parted cut)
parted (g.Cut.a_string {q = q} {e = e} {bytes = bytes} {rest = rest} cut opens content closes) =
    let s = content_stays content in
    let w : List MarkedByte = s.front in
    with_token (q ∷ w ++ e ∷ []) (q ∷ bytes) _ (ap (λ l. q ∷ l) (s.is ∙ sym (append_assoc w (e ∷ []) rest)))
    (no_slash c.Quote q ((w ++ e ∷ []) ++ rest) opens (λ h. cc)) (p.a_string w opens (content_cut content (w ++ e ∷ []) (e ∷ []) rest (s.is ∙ sym (append_assoc w (e ∷ []) rest)) refl tt) closes)
    (longest (q ∷ w ++ e ∷ []) rest closed (string_way q e w opens s.inner closes) (closed_stuck rest)) (parted cut)
parted (g.Cut.a_caret {m = m} {rest = rest} cut is stops no_name) =
    with_token (m ∷ []) (m ∷ rest) _ refl (no_slash c.Caret m rest is (λ h. cc)) (p.a_caret is) (longest (m ∷ []) rest caret (ap (λ k. begin k m.byte) is) (caret_stuck rest stops no_name)) (parted cut)
parted (g.Cut.caret_equals {m = m} {e = e} {rest = rest} cut is equals) =
    with_token (m ∷ e ∷ []) (m ∷ e ∷ rest) _ refl (no_slash c.Caret m (e ∷ rest) is (λ h. cc)) (p.caret_equals is equals)
    (longest (m ∷ e ∷ []) rest whole (ap (λ k. next (begin k m.byte) e) is ∙ ap (λ k. cond (is_caret_class k) carets (cond (begins_name_class k) name (cond (is_equals_class k) whole none))) equals) (whole_stuck rest)) (parted cut)
parted (g.Cut.a_slash {m = m} {rest = rest} cut is stops) =
    with_token (m ∷ []) (m ∷ rest) _ refl (slash_alone m rest stops) (p.a_slash is)
    (longest (m ∷ []) rest slash (ap (λ k. begin k m.byte) is) (nowhere slash rest behind_slash stops (λ n h. ap (λ t. cond t whole none) (no_equals_behind (class n) h)))) (parted cut)
parted (g.Cut.slash_equals {m = m} {e = e} {rest = rest} cut is equals) =
    with_token (m ∷ e ∷ []) (m ∷ e ∷ rest) _ refl (equals_behind m e rest equals) (p.slash_equals is equals)
    (longest (m ∷ e ∷ []) rest whole (ap (λ k. next (begin k m.byte) e) is ∙ ap (λ k. cond (is_equals_class k) whole none) equals) (whole_stuck rest)) (parted cut)
parted (g.Cut.one_sign {m = m} {rest = rest} cut is stops) =
    with_token (m ∷ []) (m ∷ rest) _ refl (no_slash (class m) m rest refl (begins_no_slash (class m) is)) (p.one_sign is)
    (longest (m ∷ []) rest (sign m.byte) (begin_sign (class m) m.byte is) (nowhere (sign m.byte) rest (λ n. are_two m.byte n.byte) stops (λ n h. ap (λ t. cond t (two m.byte n.byte) none) h))) (parted cut)
parted (g.Cut.two_signs {m = m} {n = n} {rest = rest} cut is both_are stops) =
    with_token (m ∷ n ∷ []) (m ∷ n ∷ rest) _ refl (no_slash (class m) m (n ∷ rest) refl (begins_no_slash (class m) is)) (p.two_signs is both_are)
    (longest (m ∷ n ∷ []) rest (two m.byte n.byte) (two_way m n is both_are) (nowhere (two m.byte n.byte) rest (λ o. are_three m.byte n.byte o.byte) stops (λ o h. ap (λ t. cond t whole none) h))) (parted cut)
parted (g.Cut.three_signs {m = m} {n = n} {o = o} {rest = rest} cut is all_are) =
    with_token (m ∷ n ∷ o ∷ []) (m ∷ n ∷ o ∷ rest) _ refl (no_slash (class m) m (n ∷ o ∷ rest) refl (begins_no_slash (class m) is)) (p.three_signs is all_are)
    (longest (m ∷ n ∷ o ∷ []) rest whole (ap (λ s. next s o) (two_way m n is (three_are_two m.byte n.byte o.byte all_are)) ∙ ap (λ t. cond t whole none) all_are) (whole_stuck rest)) (parted cut)

pub parts_of : (text : List MarkedByte) (done : List Token) (rest : List MarkedByte) → Cut text done rest → (parts : List Part) × Parts text parts rest × (tokens_in parts ≡ done)
parts_of text done rest cut = let q = parted cut in (q.parts, q.is, q.tokens)
