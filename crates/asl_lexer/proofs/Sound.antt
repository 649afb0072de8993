-- What the scan answers is so.
use Rattle.std.proofs.Common.{◌≡◌, ℕ, ◌+◌, ◌*◌, ◌^◌, ◌<◌, min, Bool, true, false, List, [], ◌∷◌, ◌++◌, Option, Some, None, Result, Ok, Err, refl, sym, ap, subst, ◌∙◌, append_assoc}
use Rattle.std.proofs.lemmas.Bool.{ltb-true, ltb-false, eqb-true}
use Rattle.std.specs.Prelude.{◌&&◌, ◌==◌, nat_lt}
use Rattle.std.specs.Char.{digit_value, is_digit, to_ascii_uppercase}
use Rattle.iasl_messages.specs.declared.place.Place.{Place}
use Rattle.asl_lexer.specs.declared.class.Class.{Class}
use Rattle.asl_lexer.specs.declared.class.Class.TheVariants as c
use Rattle.asl_lexer.specs.declared.class.Radix.{Radix}
use Rattle.asl_lexer.specs.declared.token.Token.{Token}
use Rattle.asl_lexer.specs.declared.mode.Fault.{Fault}
use Rattle.asl_lexer.specs.declared.mode.Mode.{Mode}
use Rattle.asl_lexer.specs.declared.mode.Mode.TheVariants as m
use Rattle.asl_lexer.specs.Class.{class_of, base_of, takes_equals, doubles, shifts}
use Rattle.asl_lexer.specs.Scan.{MarkedByte, end_at, bad_character, open_string, bad_escape, with_name, with_number, with_symbol, with_carets, Moved, begin_by, begin, name_by, dot_by, root_by, caret_text, first_of, carets_by, behind_by, digit_by, more, number_by, zero_by}
use Rattle.asl_lexer.specs.Scan.{prefix_by, broken_by, broken_escape_by, is_plain, plain_by, text_by, escaped, digits_by, escaped_by, escape_by, coded_by, value_by, escape_digit_by, slash_by, line_by, block_by, star_by, doubled_by, sign_by, shift_by, step, finish, scan}
use Rattle.asl_lexer.specs.Cut.{Each, Stops, end_of, behind_number, in_name_class, begins_name_class, behind_number_class, in_line_class, is_whitespace_class, in_text_class, behind_slash_class, begins_none_class, begins_sign_class, is_caret_class}
use Rattle.asl_lexer.specs.Cut.{is_equals_class, in_line, begins_name, is_caret, is_equals, digit_in, places, IsName, EndsName, no_name_by, no_name_behind, IsNumeral, IsCode, Content, Breaks, Inside, are_two, are_three, Cut, Bad, FailsWith}
use Rattle.asl_lexer.specs.Cut as g
use Rattle.asl_lexer.proofs.Steps.{then_scan}
use Rattle.asl_lexer.proofs.Bits.{both, left_false, either_true, left_true, neither_true, both_true, never, Stops-all, Each-snoc, value_fits, end_of-snoc, value_min, more_min, plain_min, plain_is, no_three, no_three_unshifted}

abbrev pub mark : Place → ℕ → MarkedByte
mark p b = record { place = p; byte = b }

places-snoc : (ms : List MarkedByte) (x : MarkedByte) → places (ms ++ x ∷ []) ≡ places ms ++ x.place ∷ []
places-snoc [] x = refl
places-snoc (y ∷ ms) x = ap (λ ps. y.place ∷ ps) (places-snoc ms x)

-- carets and then neither a caret nor a word
no_name_behind_carets : (ms rest : List MarkedByte) → Each is_caret ms → no_name_behind rest ≡ true → no_name_behind (ms ++ rest) ≡ true
no_name_behind_carets [] rest each e = e
no_name_behind_carets (x ∷ ms) rest each e = by (class_of x.byte) each.0 (no_name_behind_carets ms rest each.1 e) where
  by : (k : Class) → is_caret_class k ≡ true → no_name_behind (ms ++ rest) ≡ true → no_name_by k (no_name_behind (ms ++ rest)) ≡ true
  by c.Caret is f = f
  by _ is f = absurd cc

caret_no_equals : (k : Class) → is_caret_class k ≡ true → is_equals_class k ≡ false
caret_no_equals c.Caret e = refl
caret_no_equals _ e = absurd cc

caret_is : (k : Class) → is_caret_class k ≡ true → k ≡ c.Caret
caret_is c.Caret e = refl
caret_is _ e = absurd cc

module _ (text : List MarkedByte) where
  record HeldName (path : Bool) (from : Place) (name : List ℕ) (done : List Token) (rest : List MarkedByte) : Type 0 where
    w : List MarkedByte
    is : IsName path from name w
    cut : Cut text done (w ++ rest)

  record HeldDot (path : Bool) (from : Place) (name : List ℕ) (dot : Place) (done : List Token) (rest : List MarkedByte) : Type 0 where
    w : List MarkedByte
    d : ℕ
    name_is : IsName path from name w
    is : class_of d ≡ c.Dot
    cut : Cut text done (w ++ mark dot d ∷ rest)

  record HeldOne (k : Class) (from : Place) (done : List Token) (rest : List MarkedByte) : Type 0 where
    b : ℕ
    is : class_of b ≡ k
    cut : Cut text done (mark from b ∷ rest)

  record HeldCarets (before : List Place) (last : Place) (done : List Token) (rest : List MarkedByte) : Type 0 where
    ms : List MarkedByte
    each : Each is_caret ms
    at : places ms ≡ before ++ last ∷ []
    cut : Cut text done (ms ++ rest)

  record HeldPrefix (from x : Place) (done : List Token) (rest : List MarkedByte) : Type 0 where
    z : ℕ
    b : ℕ
    zero : class_of z ≡ c.Zero
    is : (b == 120) ≡ true
    cut : Cut text done (mark from z ∷ mark x b ∷ rest)

  record HeldNumber (from : Place) (radix : Radix) (value end : ℕ) (done : List Token) (rest : List MarkedByte) : Type 0 where
    w : List MarkedByte
    is : IsNumeral radix from value w
    ends : end ≡ end_of w
    fits : value < 2 ^ 64
    cut : Cut text done (w ++ rest)

  record HeldString (content : Result (List ℕ) Fault) (from : Place) (done : List Token) (rest : List MarkedByte) : Type 0 where
    q : ℕ
    bytes : List MarkedByte
    quote : class_of q ≡ c.Quote
    is : Content content bytes rest
    cut : Cut text done (mark from q ∷ bytes)

  record HeldEscape (string : List ℕ) (from slash : Place) (done : List Token) (rest : List MarkedByte) : Type 0 where
    b : ℕ
    is : class_of b ≡ c.Backslash
    held : HeldString (Ok string) from done (mark slash b ∷ rest)

  record HeldCoded (string : List ℕ) (from slash : Place) (done : List Token) (rest : List MarkedByte) : Type 0 where
    b : ℕ
    is : class_of b ≡ c.Backslash
    x : MarkedByte
    line : in_line x ≡ true
    none : escaped x.byte ≡ None
    no_digit : digit_in 8 x ≡ false
    is_x : (x.byte == 120) ≡ true
    held : HeldString (Ok string) from done (mark slash b ∷ x ∷ rest)

  record HeldDigits (string : List ℕ) (from slash : Place) (radix : Radix) (value left : ℕ) (done : List Token) (rest : List MarkedByte) : Type 0 where
    b : ℕ
    is : class_of b ≡ c.Backslash
    w : List MarkedByte
    whole : ℕ
    code : IsCode radix whole left w
    same : value ≡ min whole 255
    held : HeldString (Ok string) from done (mark slash b ∷ w ++ rest)

  record HeldBrokenEscape (fault : Fault) (from : Place) (done : List Token) (rest : List MarkedByte) : Type 0 where
    s : MarkedByte
    is : class_of s.byte ≡ c.Backslash
    held : HeldString (Err fault) from done (s ∷ rest)

  record HeldLine (done : List Token) (rest : List MarkedByte) : Type 0 where
    a : MarkedByte
    b : MarkedByte
    w : List MarkedByte
    first : class_of a.byte ≡ c.Slash
    second : class_of b.byte ≡ c.Slash
    each : Each in_line w
    cut : Cut text done (a ∷ b ∷ w ++ rest)

  record HeldBlock (star : Bool) (from : Place) (done : List Token) (rest : List MarkedByte) : Type 0 where
    a : ℕ
    b : MarkedByte
    bytes : List MarkedByte
    first : class_of a ≡ c.Slash
    second : class_of b.byte ≡ c.Star
    inside : Inside star bytes rest
    cut : Cut text done (mark from a ∷ b ∷ bytes)

  record HeldSign (from : Place) (first : ℕ) (done : List Token) (rest : List MarkedByte) : Type 0 where
    is : begins_sign_class (class_of first) ≡ true
    cut : Cut text done (mark from first ∷ rest)

  record HeldShift (from : Place) (first : ℕ) (done : List Token) (rest : List MarkedByte) : Type 0 where
    s : MarkedByte
    is : begins_sign_class (class_of first) ≡ true
    same : (s.byte == first) ≡ true
    double : doubles first ≡ true
    shift : shifts first ≡ true
    cut : Cut text done (mark from first ∷ s ∷ rest)

  abbrev Held : Mode → List Token → List MarkedByte → Type 0
  Held m.Between done rest = Cut text done rest
  Held (m.Name from path name) done rest = HeldName path from name done rest
  Held (m.Dot from path name dot) done rest = HeldDot path from name dot done rest
  Held (m.Root from) done rest = HeldOne c.Backslash from done rest
  Held (m.Carets before last) done rest = HeldCarets before last done rest
  Held (m.Zero from) done rest = HeldOne c.Zero from done rest
  Held (m.Prefix from x) done rest = HeldPrefix from x done rest
  Held (m.Number from radix value end) done rest = HeldNumber from radix value end done rest
  Held (m.Text from string) done rest = HeldString (Ok string) from done rest
  Held (m.Escape from string slash) done rest = HeldEscape string from slash done rest
  Held (m.Coded from string slash) done rest = HeldCoded string from slash done rest
  Held (m.Digits from string slash radix value left) done rest = HeldDigits string from slash radix value left done rest
  Held (m.Broken from fault) done rest = HeldString (Err fault) from done rest
  Held (m.BrokenEscape from fault) done rest = HeldBrokenEscape fault from done rest
  Held (m.Slash from) done rest = HeldOne c.Slash from done rest
  Held m.Line done rest = HeldLine done rest
  Held (m.Block from) done rest = HeldBlock false from done rest
  Held (m.Star from) done rest = HeldBlock true from done rest
  Held (m.Sign from first) done rest = HeldSign from first done rest
  Held (m.Shift from first) done rest = HeldShift from first done rest

  abbrev Keeps : Moved → List MarkedByte → Type 0
  Keeps (Ok r) rest = Held r.0 r.1 rest
  Keeps (Err x) rest = FailsWith text x

  begin_by_keeps : (k : Class) (at : Place) (b : ℕ) (done : List Token) (rest : List MarkedByte) → class_of b ≡ k → Cut text done (mark at b ∷ rest) → Keeps (begin_by k at b done) rest
  begin_by_keeps c.Blank at b done rest is cut = g.a_blank cut (ap is_whitespace_class is)
  begin_by_keeps c.Break at b done rest is cut = g.a_blank cut (ap is_whitespace_class is)
  begin_by_keeps c.Letter at b done rest is cut = record { w = mark at b ∷ []; is = g.IsName.word {m = mark at b} (ap begins_name_class is); cut = cut }
  begin_by_keeps c.Underscore at b done rest is cut = record { w = mark at b ∷ []; is = g.IsName.word {m = mark at b} (ap begins_name_class is); cut = cut }
  begin_by_keeps c.Zero at b done rest is cut = record { b = b; is = is; cut = cut }
  begin_by_keeps c.Digit at b done rest is cut = record { w = mark at b ∷ []; is = g.IsNumeral.decimal {m = mark at b} is; ends = refl; fits = value_fits b; cut = cut }
  begin_by_keeps c.Dot at b done rest is cut = record { done = done; rest = mark at b ∷ rest; cut = cut; bad = g.no_token (ap begins_none_class is) }
  begin_by_keeps c.Backslash at b done rest is cut = record { b = b; is = is; cut = cut }
  begin_by_keeps c.Caret at b done rest is cut = record { ms = mark at b ∷ []; each = (ap is_caret_class is, tt); at = refl; cut = cut }
  begin_by_keeps c.Quote at b done rest is cut = record { q = b; bytes = rest; quote = is; is = g.no_bytes; cut = cut }
  begin_by_keeps c.Slash at b done rest is cut = record { b = b; is = is; cut = cut }
  begin_by_keeps c.Star at b done rest is cut = record { is = ap begins_sign_class is; cut = cut }
  begin_by_keeps c.Equals at b done rest is cut = record { is = ap begins_sign_class is; cut = cut }
  begin_by_keeps c.Sign at b done rest is cut = record { is = ap begins_sign_class is; cut = cut }
  begin_by_keeps c.Other at b done rest is cut = record { done = done; rest = mark at b ∷ rest; cut = cut; bad = g.no_token (ap begins_none_class is) }

  begin_keeps : (at : Place) (b : ℕ) (done : List Token) (rest : List MarkedByte) → Cut text done (mark at b ∷ rest) → Keeps (begin at b done) rest
  unfolding begin
  begin_keeps at b done rest cut = begin_by_keeps (class_of b) at b done rest refl cut

  regroup : (done : List Token) (w v rest : List MarkedByte) → Cut text done (w ++ (v ++ rest)) → Cut text done ((w ++ v) ++ rest)
  regroup done w v rest cut = subst (Cut text done) (sym (append_assoc w v rest)) cut

  -- ---- words and paths

  more_name : (path : Bool) (from : Place) (name : List ℕ) (at : Place) (b : ℕ) (done : List Token) (rest : List MarkedByte) → in_name_class (class_of b) ≡ true → HeldName path from name done (mark at b ∷ rest)
      → HeldName path from (name ++ to_ascii_uppercase b ∷ []) done rest
  more_name path from name at b done rest is h = record { w = h.w ++ mark at b ∷ []; is = g.IsName.more (mark at b) h.is is; cut = regroup done h.w (mark at b ∷ []) rest h.cut }

  name_ends : (k : Class) (path : Bool) (from : Place) (name : List ℕ) (at : Place) (b : ℕ) (done : List Token) (rest : List MarkedByte) → class_of b ≡ k → in_name_class k ≡ false → (k ≡ c.Dot → ⊥)
      → HeldName path from name done (mark at b ∷ rest) → Keeps (begin at b (with_name done path from name)) rest
  name_ends k path from name at b done rest is out no_dot h =
      begin_keeps at b (with_name done path from name) rest (g.a_name h.w h.cut h.is (ap in_name_class is ∙ out, λ e. absurd (never k c.Dot b is no_dot e)))

  name_keeps : (k : Class) (from : Place) (path : Bool) (name : List ℕ) (at : Place) (b : ℕ) (done : List Token) (rest : List MarkedByte) → class_of b ≡ k → HeldName path from name done (mark at b ∷ rest)
      → Keeps (name_by k from path name at b done) rest
  name_keeps c.Letter from path name at b done rest is h = more_name path from name at b done rest (ap in_name_class is) h
  name_keeps c.Underscore from path name at b done rest is h = more_name path from name at b done rest (ap in_name_class is) h
  name_keeps c.Zero from path name at b done rest is h = more_name path from name at b done rest (ap in_name_class is) h
  name_keeps c.Digit from path name at b done rest is h = more_name path from name at b done rest (ap in_name_class is) h
  name_keeps c.Dot from path name at b done rest is h = record { w = h.w; d = b; name_is = h.is; is = is; cut = h.cut }
  name_keeps k from path name at b done rest is h = name_ends k path from name at b done rest is refl (λ e. cc) h

  dotted : (from : Place) (path : Bool) (name : List ℕ) (dot at : Place) (b : ℕ) (done : List Token) (rest : List MarkedByte) → begins_name_class (class_of b) ≡ true → HeldDot path from name dot done (mark at b ∷ rest)
      → HeldName true from ((name ++ 46 ∷ []) ++ to_ascii_uppercase b ∷ []) done rest
  dotted from path name dot at b done rest is h = record { w = h.w ++ mark dot h.d ∷ mark at b ∷ []; is = g.IsName.dotted (mark dot h.d) (mark at b) h.name_is h.is is; cut = regroup done h.w (mark dot h.d ∷ mark at b ∷ []) rest h.cut }

  dot_bad : (from : Place) (path : Bool) (name : List ℕ) (dot : Place) (done : List Token) (rest : List MarkedByte) → Stops begins_name rest → HeldDot path from name dot done rest → FailsWith text (bad_character dot)
  dot_bad from path name dot done rest s h = record {
    done = with_name done path from name;
    rest = mark dot h.d ∷ rest;
    cut = g.a_name h.w h.cut h.name_is (ap in_name_class h.is, λ e. s);
    bad = g.no_token (ap begins_none_class h.is);
  }

  dot_keeps : (k : Class) (from : Place) (path : Bool) (name : List ℕ) (dot at : Place) (b : ℕ) (done : List Token) (rest : List MarkedByte) → class_of b ≡ k → HeldDot path from name dot done (mark at b ∷ rest)
      → Keeps (dot_by k from name dot b done) rest
  dot_keeps c.Letter from path name dot at b done rest is h = dotted from path name dot at b done rest (ap begins_name_class is) h
  dot_keeps c.Underscore from path name dot at b done rest is h = dotted from path name dot at b done rest (ap begins_name_class is) h
  dot_keeps _ from path name dot at b done rest is h = dot_bad from path name dot done (mark at b ∷ rest) (ap begins_name_class is) h

  rooted : (from at : Place) (b : ℕ) (done : List Token) (rest : List MarkedByte) → begins_name_class (class_of b) ≡ true → HeldOne c.Backslash from done (mark at b ∷ rest) → HeldName true from (92 ∷ to_ascii_uppercase b ∷ []) done rest
  rooted from at b done rest is h = record { w = mark from h.b ∷ mark at b ∷ []; is = g.IsName.rooted {r = mark from h.b} {m = mark at b} h.is is; cut = h.cut }

  root_keeps : (k : Class) (from at : Place) (b : ℕ) (done : List Token) (rest : List MarkedByte) → class_of b ≡ k → HeldOne c.Backslash from done (mark at b ∷ rest) → Keeps (root_by k from at b done) rest
  root_keeps c.Letter from at b done rest is h = rooted from at b done rest (ap begins_name_class is) h
  root_keeps c.Underscore from at b done rest is h = rooted from at b done rest (ap begins_name_class is) h
  root_keeps _ from at b done rest is h = begin_keeps at b (with_name done true from (92 ∷ [])) rest (g.a_root h.cut h.is (ap begins_name_class is))

  -- ---- carets

  record LastCaret (before : List Place) (last : Place) (done : List Token) (rest : List MarkedByte) : Type 0 where
    b : ℕ
    is : class_of b ≡ c.Caret
    cut : Cut text (with_carets done before) (mark last b ∷ rest)

  one_caret : (p last : Place) (b : ℕ) (done : List Token) (rest : List MarkedByte) → p ≡ last → is_caret_class (class_of b) ≡ true → Cut text done (mark p b ∷ rest) → LastCaret [] last done rest
  one_caret p last b done rest e is cut = record { b = b; is = caret_is (class_of b) is; cut = subst (λ q. Cut text done (mark q b ∷ rest)) e cut }

  last_caret : (before : List Place) (last : Place) (ms : List MarkedByte) (done : List Token) (rest : List MarkedByte) → places ms ≡ before ++ last ∷ [] → Each is_caret ms → no_name_behind rest ≡ true → Cut text done (ms ++ rest)
      → LastCaret before last done rest
  last_caret [] last [] done rest e each no_name cut = absurd cc
  last_caret [] last (x ∷ []) done rest e each no_name cut = one_caret x.place last x.byte done rest (cc) each.0 cut
  last_caret [] last (x ∷ y ∷ ms) done rest e each no_name cut = absurd cc
  last_caret (p ∷ ps) last [] done rest e each no_name cut = absurd cc
  last_caret (p ∷ ps) last (x ∷ []) done rest e each no_name cut = absurd (none ps last (cc)) where
    none : (qs : List Place) (q : Place) → [] ≡ qs ++ q ∷ [] → ⊥
    none [] q e = cc
    none (r ∷ qs) q e = cc
  last_caret (p ∷ ps) last (x ∷ y ∷ ms) done rest e each no_name cut =
      let first : x.place ≡ p = cc in
      let others : y.place ∷ places ms ≡ ps ++ last ∷ [] = cc in
      let more_cut : Cut text (with_symbol done x.place (94 ∷ [])) ((y ∷ ms) ++ rest) = g.a_caret cut (caret_is (class_of x.byte) each.0) (caret_no_equals (class_of y.byte) each.1.0) (no_name_behind_carets (y ∷ ms) rest each.1 no_name) in
      let l = last_caret ps last (y ∷ ms) (with_symbol done p (94 ∷ [])) rest others each.1 no_name (subst (λ q. Cut text (with_symbol done q (94 ∷ [])) ((y ∷ ms) ++ rest)) first more_cut) in
      record { b = l.b; is = l.is; cut = l.cut }

  raised : (before : List Place) (last at : Place) (b : ℕ) (done : List Token) (rest : List MarkedByte) → begins_name_class (class_of b) ≡ true → HeldCarets before last done (mark at b ∷ rest)
      → HeldName true (first_of before last) (caret_text before ++ 94 ∷ to_ascii_uppercase b ∷ []) done rest
  raised before last at b done rest is h = record { w = h.ms ++ mark at b ∷ []; is = g.IsName.raised before last h.ms (mark at b) h.each h.at is; cut = regroup done h.ms (mark at b ∷ []) rest h.cut }

  caret_ends : (before : List Place) (last : Place) (done : List Token) (rest : List MarkedByte) → no_name_behind rest ≡ true → Stops is_equals rest → HeldCarets before last done rest
      → Cut text (with_symbol (with_carets done before) last (94 ∷ [])) rest
  caret_ends before last done rest no_name no_equals h = let l = last_caret before last h.ms done rest h.at h.each no_name h.cut in g.a_caret l.cut l.is no_equals no_name

  carets_keeps : (k : Class) (before : List Place) (last at : Place) (b : ℕ) (done : List Token) (rest : List MarkedByte) → class_of b ≡ k → HeldCarets before last done (mark at b ∷ rest) → Keeps (carets_by k before last at b done) rest
  carets_keeps c.Caret before last at b done rest is h = record {
    ms = h.ms ++ mark at b ∷ [];
    each = Each-snoc is_caret h.ms (mark at b) h.each (ap is_caret_class is);
    at = places-snoc h.ms (mark at b) ∙ ap (λ ps. ps ++ at ∷ []) h.at;
    cut = regroup done h.ms (mark at b ∷ []) rest h.cut;
  }
  carets_keeps c.Letter before last at b done rest is h = raised before last at b done rest (ap begins_name_class is) h
  carets_keeps c.Underscore before last at b done rest is h = raised before last at b done rest (ap begins_name_class is) h
  carets_keeps c.Equals before last at b done rest is h =
      let l = last_caret before last h.ms done (mark at b ∷ rest) h.at h.each (ap (λ k. no_name_by k (no_name_behind rest)) is) h.cut in
      g.caret_equals l.cut l.is is
  carets_keeps _ before last at b done rest is h =
      begin_keeps at b (with_symbol (with_carets done before) last (94 ∷ [])) rest (caret_ends before last done (mark at b ∷ rest) (ap (λ k. no_name_by k (no_name_behind rest)) is) (ap is_equals_class is) h)

  -- ---- numbers

  behind_keeps : (k : Class) (from : Place) (value end : ℕ) (at : Place) (b : ℕ) (done : List Token) (rest : List MarkedByte) → (behind_number_class k ≡ false → Cut text (with_number done from value end) (mark at b ∷ rest))
      → (behind_number_class k ≡ true → FailsWith text (bad_character at)) → Keeps (behind_by k from value end at b done) rest
  behind_keeps c.Letter from value end at b done rest good bad = bad refl
  behind_keeps c.Zero from value end at b done rest good bad = bad refl
  behind_keeps c.Digit from value end at b done rest good bad = bad refl
  behind_keeps _ from value end at b done rest good bad = begin_keeps at b (with_number done from value end) rest (good refl)

  digit_keeps : (t : Bool) (from : Place) (radix : Radix) (value end : ℕ) (at : Place) (b : ℕ) (done : List Token) (rest : List MarkedByte) → nat_lt (more value radix b) (2 ^ 64) ≡ t → digit_in (base_of radix) (mark at b) ≡ true
      → HeldNumber from radix value end done (mark at b ∷ rest) → Keeps (digit_by t from radix (more value radix b) (end_at at) done) rest
  digit_keeps true from radix value end at b done rest small is h = record {
    w = h.w ++ mark at b ∷ [];
    is = g.IsNumeral.more (mark at b) h.is is;
    ends = sym (end_of-snoc h.w (mark at b));
    fits = ltb-true (more value radix b) (2 ^ 64) small;
    cut = regroup done h.w (mark at b ∷ []) rest h.cut;
  }
  digit_keeps false from radix value end at b done rest large is h = record {
    done = done;
    rest = (h.w ++ mark at b ∷ []) ++ rest;
    cut = regroup done h.w (mark at b ∷ []) rest h.cut;
    bad = g.large (h.w ++ mark at b ∷ []) rest (g.IsNumeral.more (mark at b) h.is is) (ltb-false (more value radix b) (2 ^ 64) large);
  }

  a_number_ends : (from : Place) (radix : Radix) (value end : ℕ) (done : List Token) (rest : List MarkedByte) → HeldNumber from radix value end done rest → Stops (digit_in (base_of radix)) rest → Stops behind_number rest
      → Cut text (with_number done from value end) rest
  a_number_ends from radix value end done rest h no_digit none = subst (λ n. Cut text (with_number done from value n) rest) (sym h.ends) (g.a_number h.w h.cut h.is h.fits no_digit none)

  number_keeps : (t : Bool) (from : Place) (radix : Radix) (value end : ℕ) (at : Place) (b : ℕ) (done : List Token) (rest : List MarkedByte) → is_digit b (base_of radix) ≡ t → HeldNumber from radix value end done (mark at b ∷ rest)
      → Keeps (number_by t from radix value end at b done) rest
  number_keeps true from radix value end at b done rest is h = digit_keeps (nat_lt (more value radix b) (2 ^ 64)) from radix value end at b done rest refl is h
  number_keeps false from radix value end at b done rest is h =
      behind_keeps (class_of b) from value end at b done rest (λ s. a_number_ends from radix value end done (mark at b ∷ rest) h is s)
      (λ s. record { done = done; rest = h.w ++ mark at b ∷ rest; cut = h.cut; bad = g.behind_numeral h.w (mark at b) rest h.is h.fits is s })

  zero_keeps : (t x : Bool) (from at : Place) (b : ℕ) (done : List Token) (rest : List MarkedByte) → is_digit b 8 ≡ t → (b == 120) ≡ x → HeldOne c.Zero from done (mark at b ∷ rest) → Keeps (zero_by t x from at b done) rest
  zero_keeps true x from at b done rest is is_x h = record { w = mark from h.b ∷ mark at b ∷ []; is = g.IsNumeral.octal {z = mark from h.b} {m = mark at b} h.is is; ends = refl; fits = value_fits b; cut = h.cut }
  zero_keeps false true from at b done rest is is_x h = record { z = h.b; b = b; zero = h.is; is = is_x; cut = h.cut }
  zero_keeps false false from at b done rest is is_x h =
      behind_keeps (class_of b) from 0 (end_at from) at b done rest (λ s. g.a_zero h.cut h.is is is_x s)
      (λ s. record { done = done; rest = mark from h.b ∷ mark at b ∷ rest; cut = h.cut; bad = g.behind_zero h.is is is_x s })

  no_digits : (from x : Place) (done : List Token) (rest : List MarkedByte) → Stops (digit_in 16) rest → HeldPrefix from x done rest → FailsWith text (bad_character x)
  no_digits from x done rest s h = record { done = done; rest = mark from h.z ∷ mark x h.b ∷ rest; cut = h.cut; bad = g.no_hexadecimal {x = mark x h.b} h.zero h.is s }

  prefix_keeps : (t : Bool) (from x at : Place) (b : ℕ) (done : List Token) (rest : List MarkedByte) → is_digit b 16 ≡ t → HeldPrefix from x done (mark at b ∷ rest) → Keeps (prefix_by t from x at b done) rest
  prefix_keeps true from x at b done rest is h = record {
    w = mark from h.z ∷ mark x h.b ∷ mark at b ∷ [];
    is = g.IsNumeral.hexadecimal {z = mark from h.z} {x = mark x h.b} {m = mark at b} h.zero h.is is;
    ends = refl;
    fits = value_fits b;
    cut = h.cut;
  }
  prefix_keeps false from x at b done rest is h = no_digits from x done (mark at b ∷ rest) is h

  -- ---- strings

  told : (s t : Result (List ℕ) Fault) (from : Place) (done : List Token) (rest more_rest : List MarkedByte) → (h : HeldString s from done rest) → Content t h.bytes more_rest → HeldString t from done more_rest
  told s t from done rest more_rest h content = record { q = h.q; bytes = h.bytes; quote = h.quote; is = content; cut = h.cut }

  open_keeps : (s : Result (List ℕ) Fault) (from : Place) (done : List Token) (rest : List MarkedByte) → HeldString s from done rest → Breaks rest → FailsWith text (open_string from)
  open_keeps s from done rest h breaks = record { done = done; rest = mark from h.q ∷ h.bytes; cut = h.cut; bad = g.string_open {q = mark from h.q} h.quote h.is breaks }

  broken_keeps : (k : Class) (from : Place) (fault : Fault) (at : Place) (b : ℕ) (done : List Token) (rest : List MarkedByte) → class_of b ≡ k → HeldString (Err fault) from done (mark at b ∷ rest) → Keeps (broken_by k from fault done) rest
  broken_keeps c.Break from fault at b done rest is h = open_keeps (Err fault) from done (mark at b ∷ rest) h (g.at_line is)
  broken_keeps c.Quote from fault at b done rest is h = record { done = done; rest = mark from h.q ∷ h.bytes; cut = h.cut; bad = g.string_bad h.quote h.is is }
  broken_keeps c.Backslash from fault at b done rest is h = record { s = mark at b; is = is; held = h }
  broken_keeps _ from fault at b done rest is h = told (Err fault) (Err fault) from done (mark at b ∷ rest) rest h (g.passed h.is (ap in_text_class is))

  broken_escape_keeps : (k : Class) (from : Place) (fault : Fault) (at : Place) (b : ℕ) (done : List Token) (rest : List MarkedByte) → class_of b ≡ k → HeldBrokenEscape fault from done (mark at b ∷ rest) → Keeps (broken_escape_by k from fault done) rest
  broken_escape_keeps c.Break from fault at b done rest is h = open_keeps (Err fault) from done (h.s ∷ mark at b ∷ rest) h.held (g.at_escaped_line h.is is)
  broken_escape_keeps _ from fault at b done rest is h = told (Err fault) (Err fault) from done (h.s ∷ mark at b ∷ rest) rest h.held (g.passed_escape h.held.is h.is (ap in_line_class is))

  plain_keeps : (t : Bool) (from : Place) (string : List ℕ) (at : Place) (b : ℕ) (done : List Token) (rest : List MarkedByte) → is_plain b ≡ t → in_text_class (class_of b) ≡ true → HeldString (Ok string) from done (mark at b ∷ rest)
      → Keeps (plain_by t from string at b done) rest
  plain_keeps true from string at b done rest is inside h = told (Ok string) (Ok (string ++ b ∷ [])) from done (mark at b ∷ rest) rest h (g.plain {m = mark at b} h.is inside is)
  plain_keeps false from string at b done rest is inside h = told (Ok string) (Err (bad_character at)) from done (mark at b ∷ rest) rest h (g.bad_byte {m = mark at b} h.is inside is)

  text_keeps : (k : Class) (from : Place) (string : List ℕ) (at : Place) (b : ℕ) (done : List Token) (rest : List MarkedByte) → class_of b ≡ k → HeldString (Ok string) from done (mark at b ∷ rest) → Keeps (text_by k from string at b done) rest
  text_keeps c.Break from string at b done rest is h = open_keeps (Ok string) from done (mark at b ∷ rest) h (g.at_line is)
  text_keeps c.Quote from string at b done rest is h = g.a_string {q = mark from h.q} h.cut h.quote h.is is
  text_keeps c.Backslash from string at b done rest is h = record { b = b; is = is; held = h }
  text_keeps _ from string at b done rest is h = plain_keeps (is_plain b) from string at b done rest refl (ap in_text_class is) h

  digits_keeps : (t x : Bool) (from : Place) (string : List ℕ) (slash at : Place) (b : ℕ) (done : List Token) (rest : List MarkedByte) → is_digit b 8 ≡ t → (b == 120) ≡ x → escaped b ≡ None → in_line_class (class_of b) ≡ true
      → HeldEscape string from slash done (mark at b ∷ rest) → Keeps (digits_by t x from string slash b done) rest
  digits_keeps true x from string slash at b done rest is is_x none line h = record {
    b = h.b;
    is = h.is;
    w = mark at b ∷ [];
    whole = digit_value b;
    code = g.IsCode.octal {m = mark at b} line none is;
    same = value_min b;
    held = h.held;
  }
  digits_keeps false true from string slash at b done rest is is_x none line h = record { b = h.b; is = h.is; x = mark at b; line = line; none = none; no_digit = is; is_x = is_x; held = h.held }
  digits_keeps false false from string slash at b done rest is is_x none line h =
      told (Ok string) (Err (bad_escape slash)) from done (mark slash h.b ∷ mark at b ∷ rest) rest h.held (g.no_escape {s = mark slash h.b} {m = mark at b} h.held.is h.is line none is is_x)

  escaped_keeps : (o : Option ℕ) (from : Place) (string : List ℕ) (slash at : Place) (b : ℕ) (done : List Token) (rest : List MarkedByte) → escaped b ≡ o → in_line_class (class_of b) ≡ true → HeldEscape string from slash done (mark at b ∷ rest)
      → Keeps (escaped_by o from string slash b done) rest
  escaped_keeps (Some x) from string slash at b done rest is line h = told (Ok string) (Ok (string ++ x ∷ [])) from done (mark slash h.b ∷ mark at b ∷ rest) rest h.held (g.escape {m = mark at b} h.held.is h.is line is)
  escaped_keeps None from string slash at b done rest is line h = digits_keeps (is_digit b 8) (b == 120) from string slash at b done rest refl refl is line h

  escape_keeps : (k : Class) (from : Place) (string : List ℕ) (slash at : Place) (b : ℕ) (done : List Token) (rest : List MarkedByte) → class_of b ≡ k → HeldEscape string from slash done (mark at b ∷ rest)
      → Keeps (escape_by k from string slash b done) rest
  escape_keeps c.Break from string slash at b done rest is h = open_keeps (Ok string) from done (mark slash h.b ∷ mark at b ∷ rest) h.held (g.at_escaped_line h.is is)
  escape_keeps _ from string slash at b done rest is h = escaped_keeps (escaped b) from string slash at b done rest refl (ap in_line_class is) h

  no_code : (from : Place) (string : List ℕ) (slash : Place) (done : List Token) (rest : List MarkedByte) → Stops (digit_in 16) rest → HeldCoded string from slash done rest → HeldString (Err (bad_escape slash)) from done rest
  no_code from string slash done rest s h = told (Ok string) (Err (bad_escape slash)) from done (mark slash h.b ∷ h.x ∷ rest) rest h.held (g.no_code {s = mark slash h.b} h.held.is h.is h.line h.none h.no_digit h.is_x s)

  coded_keeps : (t : Bool) (from : Place) (string : List ℕ) (slash at : Place) (b : ℕ) (done : List Token) (rest : List MarkedByte) → is_digit b 16 ≡ t → HeldCoded string from slash done (mark at b ∷ rest)
      → Keeps (coded_by t from string slash b done) rest
  coded_keeps true from string slash at b done rest is h = record {
    b = h.b;
    is = h.is;
    w = h.x ∷ mark at b ∷ [];
    whole = digit_value b;
    code = g.IsCode.hexadecimal {x = h.x} {m = mark at b} h.line h.none h.no_digit h.is_x is;
    same = value_min b;
    held = h.held;
  }
  coded_keeps false from string slash at b done rest is h = broken_keeps (class_of b) from (bad_escape slash) at b done rest refl (no_code from string slash done (mark at b ∷ rest) is h)

  whole_code : (from : Place) (string : List ℕ) (slash : Place) (radix : Radix) (value left : ℕ) (done : List Token) (rest : List MarkedByte) → is_plain value ≡ true → Stops (λ x. nat_lt 0 left && digit_in (base_of radix) x) rest
      → HeldDigits string from slash radix value left done rest → HeldString (Ok (string ++ value ∷ [])) from done rest
  whole_code from string slash radix value left done rest plain s h =
      let whole_plain : is_plain h.whole ≡ true = sym (plain_min h.whole) ∙ ap is_plain (sym h.same) ∙ plain in
      let e : h.whole ≡ value = sym (h.same ∙ plain_is h.whole whole_plain) in
      subst (λ v. HeldString (Ok (string ++ v ∷ [])) from done rest) e
      (told (Ok string) (Ok (string ++ h.whole ∷ [])) from done (mark slash h.b ∷ h.w ++ rest) rest h.held (g.code h.w h.held.is h.is h.code s whole_plain))

  bad_code : (from : Place) (string : List ℕ) (slash : Place) (radix : Radix) (value left : ℕ) (done : List Token) (rest : List MarkedByte) → is_plain value ≡ false → Stops (λ x. nat_lt 0 left && digit_in (base_of radix) x) rest
      → HeldDigits string from slash radix value left done rest → HeldString (Err (bad_escape slash)) from done rest
  bad_code from string slash radix value left done rest plain s h =
      let whole_bad : is_plain h.whole ≡ false = sym (plain_min h.whole) ∙ ap is_plain (sym h.same) ∙ plain in
      told (Ok string) (Err (bad_escape slash)) from done (mark slash h.b ∷ h.w ++ rest) rest h.held (g.bad_code {s = mark slash h.b} h.w h.held.is h.is h.code s whole_bad)

  value_keeps : (t : Bool) (from : Place) (string : List ℕ) (slash : Place) (radix : Radix) (value left : ℕ) (at : Place) (b : ℕ) (done : List Token) (rest : List MarkedByte) → is_plain value ≡ t
      → (nat_lt 0 left && is_digit b (base_of radix)) ≡ false → HeldDigits string from slash radix value left done (mark at b ∷ rest) → Keeps (value_by t from string slash value at b done) rest
  value_keeps true from string slash radix value left at b done rest plain s h = text_keeps (class_of b) from (string ++ value ∷ []) at b done rest refl (whole_code from string slash radix value left done (mark at b ∷ rest) plain s h)
  value_keeps false from string slash radix value left at b done rest plain s h = broken_keeps (class_of b) from (bad_escape slash) at b done rest refl (bad_code from string slash radix value left done (mark at b ∷ rest) plain s h)

  escape_digit_keeps : (t : Bool) (from : Place) (string : List ℕ) (slash : Place) (radix : Radix) (value left : ℕ) (at : Place) (b : ℕ) (done : List Token) (rest : List MarkedByte) → (nat_lt 0 left && is_digit b (base_of radix)) ≡ t
      → HeldDigits string from slash radix value left done (mark at b ∷ rest) → Keeps (escape_digit_by t from string slash radix value left at b done) rest
  escape_digit_keeps true from string slash radix value left at b done rest is h =
      let parts = both (nat_lt 0 left) (is_digit b (base_of radix)) is in
      record {
        b = h.b;
        is = h.is;
        w = h.w ++ mark at b ∷ [];
        whole = h.whole * base_of radix + digit_value b;
        code = g.IsCode.more (mark at b) h.code (ltb-true 0 left parts.0) parts.1;
        same = ap (λ v. min (more v radix b) 255) h.same ∙ more_min radix h.whole b;
        held = subst (λ ms. HeldString (Ok string) from done (mark slash h.b ∷ ms)) (sym (append_assoc h.w (mark at b ∷ []) rest)) h.held;
      }
  escape_digit_keeps false from string slash radix value left at b done rest is h = value_keeps (is_plain value) from string slash radix value left at b done rest refl is h

  -- ---- comments and symbols

  slash_keeps : (k : Class) (from at : Place) (b : ℕ) (done : List Token) (rest : List MarkedByte) → class_of b ≡ k → HeldOne c.Slash from done (mark at b ∷ rest) → Keeps (slash_by k from at b done) rest
  slash_keeps c.Slash from at b done rest is h = record { a = mark from h.b; b = mark at b; w = []; first = h.is; second = is; each = tt; cut = h.cut }
  slash_keeps c.Star from at b done rest is h = record { a = h.b; b = mark at b; bytes = rest; first = h.is; second = is; inside = g.opened; cut = h.cut }
  slash_keeps c.Equals from at b done rest is h = g.slash_equals h.cut h.is is
  slash_keeps _ from at b done rest is h = begin_keeps at b (with_symbol done from (47 ∷ [])) rest (g.a_slash h.cut h.is (ap behind_slash_class is))

  line_more : (at : Place) (b : ℕ) (done : List Token) (rest : List MarkedByte) → in_line_class (class_of b) ≡ true → HeldLine done (mark at b ∷ rest) → HeldLine done rest
  line_more at b done rest is h = record {
    a = h.a;
    b = h.b;
    w = h.w ++ mark at b ∷ [];
    first = h.first;
    second = h.second;
    each = Each-snoc in_line h.w (mark at b) h.each is;
    cut = subst (λ ms. Cut text done (h.a ∷ h.b ∷ ms)) (sym (append_assoc h.w (mark at b ∷ []) rest)) h.cut;
  }

  line_keeps : (k : Class) (at : Place) (b : ℕ) (done : List Token) (rest : List MarkedByte) → class_of b ≡ k → HeldLine done (mark at b ∷ rest) → Keeps (line_by k done) rest
  line_keeps c.Break at b done rest is h = g.a_blank (g.a_line h.w h.cut h.first h.second h.each (ap in_line_class is)) (ap is_whitespace_class is)
  line_keeps _ at b done rest is h = line_more at b done rest (ap in_line_class is) h

  block_keeps : (k : Class) (from at : Place) (b : ℕ) (done : List Token) (rest : List MarkedByte) → class_of b ≡ k → HeldBlock false from done (mark at b ∷ rest) → Keeps (block_by k from done) rest
  block_keeps c.Star from at b done rest is h = record { a = h.a; b = h.b; bytes = h.bytes; first = h.first; second = h.second; inside = g.a_star h.inside is; cut = h.cut }
  block_keeps k from at b done rest is h = record { a = h.a; b = h.b; bytes = h.bytes; first = h.first; second = h.second; inside = g.no_star h.inside (never k c.Star b is (λ e. cc)); cut = h.cut }

  star_keeps : (k : Class) (from at : Place) (b : ℕ) (done : List Token) (rest : List MarkedByte) → class_of b ≡ k → HeldBlock true from done (mark at b ∷ rest) → Keeps (star_by k from done) rest
  star_keeps c.Slash from at b done rest is h = g.a_block h.cut h.first h.second h.inside is
  star_keeps c.Star from at b done rest is h = record { a = h.a; b = h.b; bytes = h.bytes; first = h.first; second = h.second; inside = g.a_star h.inside is; cut = h.cut }
  star_keeps k from at b done rest is h = record { a = h.a; b = h.b; bytes = h.bytes; first = h.first; second = h.second; inside = g.behind_star h.inside (never k c.Star b is (λ e. cc)) (never k c.Slash b is (λ e. cc)); cut = h.cut }

  sign_equals : (from at : Place) (first b : ℕ) (done : List Token) (rest : List MarkedByte) → (b == 61) ≡ true → takes_equals first ≡ true → HeldSign from first done (mark at b ∷ rest) → Cut text (with_symbol done from (first ∷ 61 ∷ [])) rest
  sign_equals from at first b done rest is takes h =
      let e = eqb-true b 61 is in
      subst (λ n. Cut text (with_symbol done from (first ∷ n ∷ [])) rest) e
      (g.two_signs {m = mark from first} {n = mark at b} h.cut h.is (left_true ((b == 61) && takes_equals first) ((b == first) && doubles first) (both_true (b == 61) (takes_equals first) is takes)) (Stops-all (λ o. are_three first b o.byte) rest (λ o. no_three first b o.byte e)))

  doubled : (from at : Place) (first b : ℕ) (done : List Token) (rest : List MarkedByte) → (b == first) ≡ true → doubles first ≡ true → Stops (λ o. are_three first b o.byte) rest → begins_sign_class (class_of first) ≡ true
      → Cut text done (mark from first ∷ mark at b ∷ rest) → Cut text (with_symbol done from (first ∷ first ∷ [])) rest
  doubled from at first b done rest same double s is cut =
      subst (λ n. Cut text (with_symbol done from (first ∷ n ∷ [])) rest) (eqb-true b first same)
      (g.two_signs {m = mark from first} {n = mark at b} cut is (either_true ((b == 61) && takes_equals first) ((b == first) && doubles first) (both_true (b == first) (doubles first) same double)) s)

  doubled_keeps : (t : Bool) (from at : Place) (first b : ℕ) (done : List Token) (rest : List MarkedByte) → shifts first ≡ t → (b == first) ≡ true → doubles first ≡ true → HeldSign from first done (mark at b ∷ rest)
      → Keeps (doubled_by t from first done) rest
  doubled_keeps true from at first b done rest shift same double h = record { s = mark at b; is = h.is; same = same; double = double; shift = shift; cut = h.cut }
  doubled_keeps false from at first b done rest shift same double h = doubled from at first b done rest same double (Stops-all (λ o. are_three first b o.byte) rest (λ o. no_three_unshifted first b o.byte shift)) h.is h.cut

  sign_keeps : (t u : Bool) (from : Place) (first : ℕ) (at : Place) (b : ℕ) (done : List Token) (rest : List MarkedByte) → ((b == 61) && takes_equals first) ≡ t → ((b == first) && doubles first) ≡ u
      → HeldSign from first done (mark at b ∷ rest) → Keeps (sign_by t u from first at b done) rest
  sign_keeps true u from first at b done rest e f h = let parts = both (b == 61) (takes_equals first) e in sign_equals from at first b done rest parts.0 parts.1 h
  sign_keeps false true from first at b done rest e f h = let parts = both (b == first) (doubles first) f in doubled_keeps (shifts first) from at first b done rest refl parts.0 parts.1 h
  sign_keeps false false from first at b done rest e f h =
      begin_keeps at b (with_symbol done from (first ∷ [])) rest (g.one_sign {m = mark from first} h.cut h.is (neither_true ((b == 61) && takes_equals first) ((b == first) && doubles first) e f))

  shift_ends : (from : Place) (first : ℕ) (done : List Token) (rest : List MarkedByte) → (h : HeldShift from first done rest) → Stops (λ o. are_three first h.s.byte o.byte) rest → Cut text (with_symbol done from (first ∷ first ∷ [])) rest
  shift_ends from first done rest h s = doubled from h.s.place first h.s.byte done rest h.same h.double s h.is h.cut

  shift_keeps : (t : Bool) (from : Place) (first : ℕ) (at : Place) (b : ℕ) (done : List Token) (rest : List MarkedByte) → (b == 61) ≡ t → HeldShift from first done (mark at b ∷ rest) → Keeps (shift_by t from first at b done) rest
  shift_keeps true from first at b done rest is h =
      let e = eqb-true b 61 is in
      let f = eqb-true h.s.byte first h.same in
      subst (λ n. Cut text (with_symbol done from (first ∷ n ∷ 61 ∷ [])) rest) f (subst (λ n. Cut text (with_symbol done from (first ∷ h.s.byte ∷ n ∷ [])) rest) e
      (g.three_signs {m = mark from first} {o = mark at b} h.cut h.is (both_true (b == 61) ((h.s.byte == first) && shifts first) is (both_true (h.s.byte == first) (shifts first) h.same h.shift))))
  shift_keeps false from first at b done rest is h =
      begin_keeps at b (with_symbol done from (first ∷ first ∷ [])) rest (shift_ends from first done (mark at b ∷ rest) h (left_false (b == 61) ((h.s.byte == first) && shifts first) is))

  -- ---- all

  step_keeps : (mode : Mode) (at : Place) (b : ℕ) (done : List Token) (rest : List MarkedByte) → Held mode done (mark at b ∷ rest) → Keeps (step mode at b done) rest
  step_keeps m.Between at b done rest h = begin_keeps at b done rest h
  step_keeps (m.Name from path name) at b done rest h = name_keeps (class_of b) from path name at b done rest refl h
  step_keeps (m.Dot from path name dot) at b done rest h = dot_keeps (class_of b) from path name dot at b done rest refl h
  step_keeps (m.Root from) at b done rest h = root_keeps (class_of b) from at b done rest refl h
  step_keeps (m.Carets before last) at b done rest h = carets_keeps (class_of b) before last at b done rest refl h
  step_keeps (m.Zero from) at b done rest h = zero_keeps (is_digit b 8) (b == 120) from at b done rest refl refl h
  step_keeps (m.Prefix from x) at b done rest h = prefix_keeps (is_digit b 16) from x at b done rest refl h
  step_keeps (m.Number from radix value end) at b done rest h = number_keeps (is_digit b (base_of radix)) from radix value end at b done rest refl h
  step_keeps (m.Text from string) at b done rest h = text_keeps (class_of b) from string at b done rest refl h
  step_keeps (m.Escape from string slash) at b done rest h = escape_keeps (class_of b) from string slash at b done rest refl h
  step_keeps (m.Coded from string slash) at b done rest h = coded_keeps (is_digit b 16) from string slash at b done rest refl h
  step_keeps (m.Digits from string slash radix value left) at b done rest h = escape_digit_keeps (nat_lt 0 left && is_digit b (base_of radix)) from string slash radix value left at b done rest refl h
  step_keeps (m.Broken from fault) at b done rest h = broken_keeps (class_of b) from fault at b done rest refl h
  step_keeps (m.BrokenEscape from fault) at b done rest h = broken_escape_keeps (class_of b) from fault at b done rest refl h
  step_keeps (m.Slash from) at b done rest h = slash_keeps (class_of b) from at b done rest refl h
  step_keeps m.Line at b done rest h = line_keeps (class_of b) at b done rest refl h
  step_keeps (m.Block from) at b done rest h = block_keeps (class_of b) from at b done rest refl h
  step_keeps (m.Star from) at b done rest h = star_keeps (class_of b) from at b done rest refl h
  step_keeps (m.Sign from first) at b done rest h = sign_keeps ((b == 61) && takes_equals first) ((b == first) && doubles first) from first at b done rest refl refl h
  step_keeps (m.Shift from first) at b done rest h = shift_keeps (b == 61) from first at b done rest refl h

  abbrev pub Tells : Result (List Token) Fault → Type 0
  Tells (Ok tokens) = Cut text tokens []
  Tells (Err x) = FailsWith text x

  digits_end : (t : Bool) (from : Place) (string : List ℕ) (slash : Place) (radix : Radix) (value left : ℕ) (done : List Token) → is_plain value ≡ t → HeldDigits string from slash radix value left done [] → FailsWith text (open_string from)
  digits_end true from string slash radix value left done plain h = open_keeps (Ok (string ++ value ∷ [])) from done [] (whole_code from string slash radix value left done [] plain tt h) g.at_end
  digits_end false from string slash radix value left done plain h = open_keeps (Err (bad_escape slash)) from done [] (bad_code from string slash radix value left done [] plain tt h) g.at_end

  finish_tells : (mode : Mode) (done : List Token) → Held mode done [] → Tells (finish mode done)
  finish_tells m.Between done h = h
  finish_tells (m.Name from path name) done h = g.a_name h.w h.cut h.is tt
  finish_tells (m.Dot from path name dot) done h = dot_bad from path name dot done [] tt h
  finish_tells (m.Root from) done h = g.a_root h.cut h.is tt
  finish_tells (m.Carets before last) done h = caret_ends before last done [] refl tt h
  finish_tells (m.Zero from) done h = g.a_zero h.cut h.is tt tt tt
  finish_tells (m.Prefix from x) done h = no_digits from x done [] tt h
  finish_tells (m.Number from radix value end) done h = a_number_ends from radix value end done [] h tt tt
  finish_tells (m.Text from string) done h = open_keeps (Ok string) from done [] h g.at_end
  finish_tells (m.Escape from string slash) done h = open_keeps (Ok string) from done (mark slash h.b ∷ []) h.held (g.at_escape h.is)
  finish_tells (m.Coded from string slash) done h = open_keeps (Err (bad_escape slash)) from done [] (no_code from string slash done [] tt h) g.at_end
  finish_tells (m.Digits from string slash radix value left) done h = digits_end (is_plain value) from string slash radix value left done refl h
  finish_tells (m.Broken from fault) done h = open_keeps (Err fault) from done [] h g.at_end
  finish_tells (m.BrokenEscape from fault) done h = open_keeps (Err fault) from done (h.s ∷ []) h.held (g.at_escape h.is)
  finish_tells (m.Slash from) done h = g.a_slash h.cut h.is tt
  finish_tells m.Line done h = g.a_line h.w h.cut h.first h.second h.each tt
  finish_tells (m.Block from) done h = record { done = done; rest = mark from h.a ∷ h.b ∷ h.bytes; cut = h.cut; bad = g.comment_open {a = mark from h.a} h.first h.second h.inside }
  finish_tells (m.Star from) done h = record { done = done; rest = mark from h.a ∷ h.b ∷ h.bytes; cut = h.cut; bad = g.comment_open {a = mark from h.a} h.first h.second h.inside }
  finish_tells (m.Sign from first) done h = g.one_sign {m = mark from first} h.cut h.is tt
  finish_tells (m.Shift from first) done h = shift_ends from first done [] h tt

  scan_by : (r : Moved) (rest : List MarkedByte) → Keeps r rest → ((mode : Mode) (done : List Token) → Held mode done rest → Tells (scan rest mode done)) → Tells (then_scan rest r)
  unfolding then_scan
  scan_by (Ok r) rest keeps more_keeps = more_keeps r.0 r.1 keeps
  scan_by (Err x) rest keeps more_keeps = keeps

  scan_tells : (rest : List MarkedByte) (mode : Mode) (done : List Token) → Held mode done rest → Tells (scan rest mode done)
  unfolding scan then_scan
  scan_tells [] mode done h = finish_tells mode done h
  scan_tells (b ∷ rest) mode done h = scan_by (step mode b.place b.byte done) rest (step_keeps mode b.place b.byte done rest h) (λ next more_done k. scan_tells rest next more_done k)

  pub all_tells : Tells (scan text m.Between [])
  all_tells = scan_tells text m.Between [] g.begun
