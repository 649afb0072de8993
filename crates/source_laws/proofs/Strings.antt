-- What stands in a string: no quote but behind a backslash.
use Rattle.std.proofs.Common.{◌≡◌, ℕ, Bool, true, false, List, [], ◌∷◌, ◌++◌, Result, Ok, refl, sym, ap, subst, ◌∙◌, append_assoc}
use Rattle.std.specs.Prelude.{◌==◌, ◌&&◌, nat_lt}
use Rattle.std.proofs.lemmas.List.{append_cancel_right}
use Rattle.asl_lexer.specs.declared.class.Class.{Class}
use Rattle.asl_lexer.specs.declared.class.Class.TheVariants as c
use Rattle.asl_lexer.specs.declared.class.Radix.{Radix}
use Rattle.asl_lexer.specs.declared.class.Radix.TheVariants.{Octal, Decimal, Hexadecimal}
use Rattle.asl_lexer.specs.declared.mode.Fault.{Fault}
use Rattle.asl_lexer.specs.Class.{base_of}
use Rattle.asl_lexer.specs.Scan.{MarkedByte}
use Rattle.asl_lexer.specs.Cut.{Stops, class, in_text_class, in_line_class, in_text, in_line, digit_in, IsCode, Content}
use Rattle.asl_lexer.specs.Cut as g
use Rattle.source_laws.proofs.Bytes.{byte_is, byte_differs, quote_class, backslash_class, break_class, no_digit, not_both}

-- These bytes stand in one line; the first argument says whether the first of them is protected by a backslash before it.
-- Behind the last one none is.
abbrev pub Inner : Bool → List MarkedByte → Type 0
Inner protected [] = protected ≡ false
Inner true (m ∷ w) = ((m.byte == 10) ≡ false) × Inner false w
Inner false (m ∷ w) = ((m.byte == 10) ≡ false) × ((m.byte == 34) ≡ false) × Inner (m.byte == 92) w

pub inner_on : (p : Bool) (xs ys : List MarkedByte) → Inner p xs → Inner false ys → Inner p (xs ++ ys)
inner_on p [] ys h k = subst (λ t. Inner t ys) (sym h) k
inner_on true (m ∷ xs) ys h k = (h.0, inner_on false xs ys h.1 k)
inner_on false (m ∷ xs) ys h k = (h.0, h.1, inner_on (m.byte == 92) xs ys h.2 k)

one : (m : MarkedByte) → (m.byte == 10) ≡ false → (m.byte == 34) ≡ false → (m.byte == 92) ≡ false → Inner false (m ∷ [])
one m b q s = (b, q, s)

in_line_differs : (m : MarkedByte) → in_line m ≡ true → (m.byte == 10) ≡ false
in_line_differs m h = byte_differs 10 c.Break m.byte break_class (λ e. (let both = sym h ∙ ap in_line_class e in cc))

-- a byte of the line behind a backslash
protected : (m : MarkedByte) → in_line m ≡ true → Inner true (m ∷ [])
protected m h = (in_line_differs m h, refl)

text_differs : (k : Class) → in_text_class k ≡ true → (k ≡ c.Quote → ⊥) × (k ≡ c.Backslash → ⊥) × (k ≡ c.Break → ⊥)
text_differs k h = (λ e. (let both = sym h ∙ ap in_text_class e in cc), λ e. (let both = sym h ∙ ap in_text_class e in cc), λ e. (let both = sym h ∙ ap in_text_class e in cc))

of_text : (m : MarkedByte) → in_text m ≡ true → Inner false (m ∷ [])
of_text m h =
    let apart = text_differs (class m) h in
    one m (byte_differs 10 c.Break m.byte break_class apart.2) (byte_differs 34 c.Quote m.byte quote_class apart.0) (byte_differs 92 c.Backslash m.byte backslash_class apart.1)

of_digit : (radix : Radix) (m : MarkedByte) → digit_in (base_of radix) m ≡ true → Inner false (m ∷ [])
of_digit Octal m e = one m (no_digit 10 8 m.byte refl e) (no_digit 34 8 m.byte refl e) (no_digit 92 8 m.byte refl e)
of_digit Decimal m e = one m (no_digit 10 10 m.byte refl e) (no_digit 34 10 m.byte refl e) (no_digit 92 10 m.byte refl e)
of_digit Hexadecimal m e = one m (no_digit 10 16 m.byte refl e) (no_digit 34 16 m.byte refl e) (no_digit 92 16 m.byte refl e)

-- a backslash, and what it protects
of_escape : (s : MarkedByte) (w : List MarkedByte) → class s ≡ c.Backslash → Inner true w → Inner false (s ∷ w)
of_escape s w is h =
    let byte : (s.byte == 92) ≡ true = byte_is c.Backslash s.byte is in
    (not_both 10 92 s.byte refl byte, not_both 34 92 s.byte refl byte, subst (λ t. Inner t w) (sym byte) h)

of_code : {radix : Radix} {value left : ℕ} {w : List MarkedByte} → IsCode radix value left w → Inner true w
of_code (g.IsCode.octal {m = m} line none is) = protected m line
of_code (g.IsCode.hexadecimal {x = x} {m = m} line none no_digit is_x is) = (in_line_differs x line, of_digit Hexadecimal m is)
of_code (g.IsCode.more {radix = radix} {w = w} m code room is) = inner_on true w (m ∷ []) (of_code code) (of_digit radix m is)

-- What stands in a string is the front of what stood there.
pub record Stays (bytes rest : List MarkedByte) : Type 0 where
  pub front : List MarkedByte
  pub is : bytes ≡ front ++ rest
  pub inner : Inner false front

stays_on : {bytes rest : List MarkedByte} (w : List MarkedByte) → Inner false w → Stays bytes (w ++ rest) → Stays bytes rest
stays_on {bytes} {rest} w h s = record { front = s.front ++ w; is = s.is ∙ sym (append_assoc s.front w rest); inner = inner_on false s.front w s.inner h }

pub content_stays : {string : Result (List ℕ) Fault} {bytes rest : List MarkedByte} → Content string bytes rest → Stays bytes rest
content_stays g.Content.no_bytes = record { front = []; is = refl; inner = refl }
content_stays (g.Content.plain {m = m} content text plain) = stays_on (m ∷ []) (of_text m text) (content_stays content)
content_stays (g.Content.bad_byte {m = m} content text plain) = stays_on (m ∷ []) (of_text m text) (content_stays content)
content_stays (g.Content.escape {s = s} {m = m} content slash line is) = stays_on (s ∷ m ∷ []) (of_escape s (m ∷ []) slash (protected m line)) (content_stays content)
content_stays (g.Content.code {s = s} w content slash code stops plain) = stays_on (s ∷ w) (of_escape s w slash (of_code code)) (content_stays content)
content_stays (g.Content.bad_code {s = s} w content slash code stops plain) = stays_on (s ∷ w) (of_escape s w slash (of_code code)) (content_stays content)
content_stays (g.Content.no_code {s = s} {x = x} content slash line none no_digit is_x stops) = stays_on (s ∷ x ∷ []) (of_escape s (x ∷ []) slash (protected x line)) (content_stays content)
content_stays (g.Content.no_escape {s = s} {m = m} content slash line none no_digit no_x) = stays_on (s ∷ m ∷ []) (of_escape s (m ∷ []) slash (protected m line)) (content_stays content)
content_stays (g.Content.passed {m = m} content text) = stays_on (m ∷ []) (of_text m text) (content_stays content)
content_stays (g.Content.passed_escape {s = s} {m = m} content slash line) = stays_on (s ∷ m ∷ []) (of_escape s (m ∷ []) slash (protected m line)) (content_stays content)

-- ---- what stands in a string whatever stands behind the byte that is next

abbrev Some : List MarkedByte → Type 0
Some [] = ⊥
Some (m ∷ ms) = Unit {0}

stops_cut : (p : MarkedByte → Bool) (u tail : List MarkedByte) → Some u → Stops p (u ++ tail) → Stops p u
stops_cut p [] tail some h = absurd some
stops_cut p (m ∷ u) tail some h = h

tail_same : (xs ys tail : List MarkedByte) → xs ++ tail ≡ ys ++ tail → xs ≡ ys
tail_same xs ys tail e = append_cancel_right xs ys tail e

pub content_cut : {string : Result (List ℕ) Fault} {bytes rest : List MarkedByte} → Content string bytes rest → (v u tail : List MarkedByte) → bytes ≡ v ++ tail → rest ≡ u ++ tail → Some u → Content string v u
content_cut (g.Content.no_bytes {bytes = bytes}) v u tail e f some = subst (λ x. Content (Ok []) v x) (tail_same v u tail (sym e ∙ f)) g.Content.no_bytes
content_cut (g.Content.plain {m = m} content text plain) v u tail e f some = g.Content.plain {m = m} (content_cut content v (m ∷ u) tail e (ap (λ r. m ∷ r) f) tt) text plain
content_cut (g.Content.bad_byte {m = m} content text plain) v u tail e f some = g.Content.bad_byte {m = m} (content_cut content v (m ∷ u) tail e (ap (λ r. m ∷ r) f) tt) text plain
content_cut (g.Content.escape {s = s} {m = m} content slash line is) v u tail e f some = g.Content.escape {s = s} {m = m} (content_cut content v (s ∷ m ∷ u) tail e (ap (λ r. s ∷ m ∷ r) f) tt) slash line is
content_cut (g.Content.code {radix = radix} {left = left} {s = s} w content slash code stops plain) v u tail e f some =
    g.Content.code w (content_cut content v (s ∷ w ++ u) tail e (ap (λ r. s ∷ w ++ r) f ∙ ap (λ r. s ∷ r) (sym (append_assoc w u tail))) tt) slash code
    (stops_cut (λ m. nat_lt 0 left && digit_in (base_of radix) m) u tail some (subst (Stops (λ m. nat_lt 0 left && digit_in (base_of radix) m)) f stops)) plain
content_cut (g.Content.bad_code {radix = radix} {left = left} {s = s} w content slash code stops plain) v u tail e f some =
    g.Content.bad_code w (content_cut content v (s ∷ w ++ u) tail e (ap (λ r. s ∷ w ++ r) f ∙ ap (λ r. s ∷ r) (sym (append_assoc w u tail))) tt) slash code
    (stops_cut (λ m. nat_lt 0 left && digit_in (base_of radix) m) u tail some (subst (Stops (λ m. nat_lt 0 left && digit_in (base_of radix) m)) f stops)) plain
content_cut (g.Content.no_code {s = s} {x = x} content slash line none no_digit is_x stops) v u tail e f some =
    g.Content.no_code {s = s} {x = x} (content_cut content v (s ∷ x ∷ u) tail e (ap (λ r. s ∷ x ∷ r) f) tt) slash line none no_digit is_x (stops_cut (digit_in 16) u tail some (subst (Stops (digit_in 16)) f stops))
content_cut (g.Content.no_escape {s = s} {m = m} content slash line none no_digit no_x) v u tail e f some =
    g.Content.no_escape {s = s} {m = m} (content_cut content v (s ∷ m ∷ u) tail e (ap (λ r. s ∷ m ∷ r) f) tt) slash line none no_digit no_x
content_cut (g.Content.passed {m = m} content text) v u tail e f some = g.Content.passed {m = m} (content_cut content v (m ∷ u) tail e (ap (λ r. m ∷ r) f) tt) text
content_cut (g.Content.passed_escape {s = s} {m = m} content slash line) v u tail e f some = g.Content.passed_escape {s = s} {m = m} (content_cut content v (s ∷ m ∷ u) tail e (ap (λ r. s ∷ m ∷ r) f) tt) slash line
