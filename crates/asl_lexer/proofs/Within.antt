-- Tokens and faults stand in files that there are.
use Rattle.std.proofs.Common.{◌≡◌, ℕ, suc, ◌+◌, ◌<◌, Bool, List, [], ◌∷◌, ◌++◌, Result, Ok, Err, refl, sym, subst, arith}
use Rattle.std.specs.List.{All}
use Rattle.std.proofs.lemmas.List.Elements.{All-push}
use Rattle.iasl_messages.specs.declared.place.Place.{Place}
use Rattle.iasl_messages.specs.declared.place.Line.{Line}
use Rattle.iasl_messages.specs.declared.message.Message.{Message}
use Rattle.iasl_messages.specs.declared.message.Stage.{Stage}
use Rattle.iasl_messages.specs.declared.message.Stage.TheVariants.{Refused, Memory}
use Rattle.asl_lexer.specs.declared.class.Radix.{Radix}
use Rattle.asl_lexer.specs.declared.token.Token.{Token}
use Rattle.asl_lexer.specs.declared.token.TokenKind.{TokenKind}
use Rattle.asl_lexer.specs.declared.token.TokenKind.TheVariants as k
use Rattle.asl_lexer.specs.declared.mode.Fault.{Fault}
use Rattle.asl_lexer.specs.Scan.{MarkedByte, with, name_kind, first_of}
use Rattle.asl_lexer.specs.Marks.{marks_from, line_marks, following, joined, tokens_of, message_of, Answers}
use Rattle.asl_lexer.specs.Cut.{IsNumeral, IsName, Content, Inside, Cut, Bad, places}
use Rattle.asl_lexer.specs.Cut as g
use Rattle.asl_lexer.specs.Within.{IsWithin}
use Rattle.asl_lexer.proofs.Told.{fault_is, tokens_are_cut}

module _ (files : ℕ) where
  abbrev Home : MarkedByte → Type 0
  Home m = m.place.file < files

  abbrev Homes : List MarkedByte → Type 0
  Homes [] = Unit {0}
  Homes (m ∷ ms) = Home m × Homes ms

  first : (m : MarkedByte) (ms : List MarkedByte) → Homes (m ∷ ms) → Home m
  first m ms h = h.0

  behind : (w rest : List MarkedByte) → Homes (w ++ rest) → Homes rest
  behind [] rest h = h
  behind (m ∷ ms) rest h = behind ms rest h.1

  front : (w rest : List MarkedByte) → Homes (w ++ rest) → Homes w
  front [] rest h = tt
  front (m ∷ ms) rest h = (h.0, front ms rest h.1)

  join : (w rest : List MarkedByte) → Homes w → Homes rest → Homes (w ++ rest)
  join [] rest a b = b
  join (m ∷ ms) rest a b = (a.0, join ms rest a.1 b)

  -- ---- the marks of lines

  marks_home : (file line column : ℕ) (bs : List ℕ) → file < files → Homes (marks_from file line column bs)
  unfolding marks_from
  marks_home file line column [] h = tt
  marks_home file line column (b ∷ bs) h = (h, marks_home file line (column + 1) bs h)

  abbrev LineHomes : List Line → Type 0
  LineHomes [] = Unit {0}
  LineHomes (l ∷ ls) = (l.file < files) × LineHomes ls

  lines_home : (lines : List Line) → All (λ line. line.file < files) lines → LineHomes lines
  lines_home [] all = tt
  lines_home (l ∷ ls) all = (all 0 l (omega arith), lines_home ls (λ i d lt. all (suc i) d (omega (arith, lt))))

  following_home : (lines : List Line) → LineHomes lines → Homes (following lines)
  unfolding following
  following_home [] h = tt
  following_home (l ∷ ls) h = (h.0, join (line_marks l) (following ls) (marks_home l.file l.number 1 l.text h.0) (following_home ls h.1))

  joined_home : (lines : List Line) → LineHomes lines → Homes (joined lines)
  unfolding joined
  joined_home [] h = tt
  joined_home (l ∷ ls) h = join (line_marks l) (following ls) (marks_home l.file l.number 1 l.text h.0) (following_home ls h.1)

  -- ---- what is left behind tokens

  numeral_home : {radix : Radix} {from : Place} {value : ℕ} {w : List MarkedByte} → IsNumeral radix from value w → Homes w → from.file < files
  numeral_home (g.IsNumeral.decimal {m = b} is) h = first b [] h
  numeral_home (g.IsNumeral.octal {z = z} {m = b} is_zero is) h = first z (b ∷ []) h
  numeral_home (g.IsNumeral.hexadecimal {z = z} {x = x} {m = b} is_zero is_x is) h = first z (x ∷ b ∷ []) h
  numeral_home (g.IsNumeral.more {w = w} b numeral is) h = numeral_home numeral (front w (b ∷ []) h)

  inside_home : {s : Bool} {bytes rest : List MarkedByte} → Inside s bytes rest → Homes bytes → Homes rest
  inside_home g.opened h = h
  inside_home (g.a_star {m = b} {rest = rest} inside is) h = behind (b ∷ []) rest (inside_home inside h)
  inside_home (g.no_star {m = b} {rest = rest} inside apart) h = behind (b ∷ []) rest (inside_home inside h)
  inside_home (g.behind_star {m = b} {rest = rest} inside apart no_slash) h = behind (b ∷ []) rest (inside_home inside h)

  content_home : {s : Result (List ℕ) Fault} {bytes rest : List MarkedByte} → Content s bytes rest → Homes bytes → Homes rest
  content_home g.no_bytes h = h
  content_home (g.plain {m = b} {rest = rest} content is plain) h = behind (b ∷ []) rest (content_home content h)
  content_home (g.bad_byte {m = b} {rest = rest} content is plain) h = behind (b ∷ []) rest (content_home content h)
  content_home (g.escape {s = s} {m = b} {rest = rest} content slash line is) h = behind (s ∷ b ∷ []) rest (content_home content h)
  content_home (g.code {s = s} {rest = rest} w content slash code ends plain) h = behind w rest (behind (s ∷ []) (w ++ rest) (content_home content h))
  content_home (g.bad_code {s = s} {rest = rest} w content slash code ends plain) h = behind w rest (behind (s ∷ []) (w ++ rest) (content_home content h))
  content_home (g.no_code {s = s} {x = x} {rest = rest} content slash line none no_digit is_x ends) h = behind (s ∷ x ∷ []) rest (content_home content h)
  content_home (g.no_escape {s = s} {m = b} {rest = rest} content slash line none no_digit no_x) h = behind (s ∷ b ∷ []) rest (content_home content h)
  content_home (g.passed {m = b} {rest = rest} content is) h = behind (b ∷ []) rest (content_home content h)
  content_home (g.passed_escape {s = s} {m = b} {rest = rest} content slash line) h = behind (s ∷ b ∷ []) rest (content_home content h)

  abbrev AtHome : Result (List ℕ) Fault → Type 0
  AtHome (Ok string) = Unit {0}
  AtHome (Err fault) = fault.place.file < files

  content_fault : {s : Result (List ℕ) Fault} {bytes rest : List MarkedByte} → Content s bytes rest → Homes bytes → AtHome s
  content_fault g.no_bytes h = tt
  content_fault (g.plain content is plain) h = tt
  content_fault (g.bad_byte {m = b} {rest = rest} content is plain) h = first b rest (content_home content h)
  content_fault (g.escape content slash line is) h = tt
  content_fault (g.code w content slash code ends plain) h = tt
  content_fault (g.bad_code {s = s} {rest = rest} w content slash code ends plain) h = first s (w ++ rest) (content_home content h)
  content_fault (g.no_code {s = s} {x = x} {rest = rest} content slash line none no_digit is_x ends) h = first s (x ∷ rest) (content_home content h)
  content_fault (g.no_escape {s = s} {m = b} {rest = rest} content slash line none no_digit no_x) h = first s (b ∷ rest) (content_home content h)
  content_fault (g.passed content is) h = content_fault content h
  content_fault (g.passed_escape content slash line) h = content_fault content h

  cut_home : (text : List MarkedByte) {done : List Token} {rest : List MarkedByte} → Homes text → Cut text done rest → Homes rest
  cut_home text h g.begun = h
  cut_home text h (g.a_blank {m = b} {rest = rest} cut is) = behind (b ∷ []) rest (cut_home text h cut)
  cut_home text h (g.a_line {a = a} {b = b} {rest = rest} w cut one two each s) = behind w rest (behind (a ∷ b ∷ []) (w ++ rest) (cut_home text h cut))
  cut_home text h (g.a_block {a = a} {b = b} {e = e} {bytes = bytes} {rest = rest} cut one two inside slash) = behind (e ∷ []) rest (inside_home inside (behind (a ∷ b ∷ []) bytes (cut_home text h cut)))
  cut_home text h (g.a_name {rest = rest} w cut is ends) = behind w rest (cut_home text h cut)
  cut_home text h (g.a_root {m = b} {rest = rest} cut is s) = behind (b ∷ []) rest (cut_home text h cut)
  cut_home text h (g.a_zero {m = b} {rest = rest} cut is no_digit no_x none) = behind (b ∷ []) rest (cut_home text h cut)
  cut_home text h (g.a_number {rest = rest} w cut is small no_digit none) = behind w rest (cut_home text h cut)
  cut_home text h (g.a_string {q = q} {e = e} {bytes = bytes} {rest = rest} cut is content ends) = behind (e ∷ []) rest (content_home content (behind (q ∷ []) bytes (cut_home text h cut)))
  cut_home text h (g.a_caret {m = b} {rest = rest} cut is no_equals no_name) = behind (b ∷ []) rest (cut_home text h cut)
  cut_home text h (g.caret_equals {m = b} {e = e} {rest = rest} cut is equals) = behind (b ∷ e ∷ []) rest (cut_home text h cut)
  cut_home text h (g.a_slash {m = b} {rest = rest} cut is s) = behind (b ∷ []) rest (cut_home text h cut)
  cut_home text h (g.slash_equals {m = b} {e = e} {rest = rest} cut is equals) = behind (b ∷ e ∷ []) rest (cut_home text h cut)
  cut_home text h (g.one_sign {m = b} {rest = rest} cut is s) = behind (b ∷ []) rest (cut_home text h cut)
  cut_home text h (g.two_signs {m = b} {n = n} {rest = rest} cut is two s) = behind (b ∷ n ∷ []) rest (cut_home text h cut)
  cut_home text h (g.three_signs {m = b} {n = n} {o = o} {rest = rest} cut is three) = behind (b ∷ n ∷ o ∷ []) rest (cut_home text h cut)

  bad_home : {rest : List MarkedByte} {fault : Fault} → Bad rest fault → Homes rest → fault.place.file < files
  bad_home (g.no_token {m = b} {rest = rest} is) h = first b rest h
  bad_home (g.large w rest is large) h = numeral_home is (front w rest h)
  bad_home (g.behind_numeral w b rest is small no_digit more) h = first b rest (behind w (b ∷ rest) h)
  bad_home (g.behind_zero {z = z} {m = b} {rest = rest} is_zero no_digit no_x more) h = first b rest (behind (z ∷ []) (b ∷ rest) h)
  bad_home (g.no_hexadecimal {z = z} {x = x} {rest = rest} is_zero is_x s) h = first x rest (behind (z ∷ []) (x ∷ rest) h)
  bad_home (g.string_open {q = q} {bytes = bytes} is content breaks) h = first q bytes h
  bad_home (g.string_bad {q = q} {bytes = bytes} is content ends) h = content_fault content (behind (q ∷ []) bytes h)
  bad_home (g.comment_open {a = a} {b = b} {bytes = bytes} one two inside) h = first a (b ∷ bytes) h

  fault_home : (lines : List Line) (fault : Fault) → LineHomes lines → tokens_of lines ≡ Err fault → fault.place.file < files
  fault_home lines fault h e =
      let fails = fault_is lines fault e in
      bad_home fails.bad (cut_home (joined lines) (joined_home lines h) fails.cut)

  -- ---- tokens

  first_home : (before : List Place) (last : Place) (cs : List MarkedByte) → places cs ≡ before ++ last ∷ [] → Homes cs → (first_of before last).file < files
  first_home before last [] e h = none before e
    where
      none : (before : List Place) → [] ≡ before ++ last ∷ [] → (first_of before last).file < files
      none [] e = absurd cc
      none (p ∷ ps) e = absurd cc
  first_home before last (c ∷ cs) e h = some before e
    where
      some : (before : List Place) → places (c ∷ cs) ≡ before ++ last ∷ [] → (first_of before last).file < files
      some [] e = let same : c.place ≡ last = cc in subst (λ (p : Place). p.file < files) same h.0
      some (p ∷ ps) e = let same : c.place ≡ p = cc in subst (λ (p : Place). p.file < files) same h.0

  name_home : {path : Bool} {from : Place} {text : List ℕ} {w : List MarkedByte} → IsName path from text w → Homes w → from.file < files
  name_home (g.IsName.word {m = b} is) h = first b [] h
  name_home (g.IsName.rooted {r = r} {m = b} is begins) h = first r (b ∷ []) h
  name_home (g.IsName.raised before last cs b each at begins) h = first_home before last cs at (front cs (b ∷ []) h)
  name_home (g.IsName.more {w = w} b name is) h = name_home name (front w (b ∷ []) h)
  name_home (g.IsName.dotted {w = w} d b name dot begins) h = name_home name (front w (d ∷ b ∷ []) h)

  abbrev TokenHome : Token → Type 0
  TokenHome token = token.place.file < files

  one_more : (done : List Token) (kind : TokenKind) (place : Place) (end number : ℕ) (text : List ℕ) → All TokenHome done → place.file < files → All TokenHome (with done kind place end number text)
  one_more done kind place end number text all home = All-push TokenHome done (record { kind = kind; place = place; end = end; number = number; text = text }) all home

  tokens_home : (text : List MarkedByte) {done : List Token} {rest : List MarkedByte} → Homes text → Cut text done rest → All TokenHome done
  tokens_home text h g.begun = λ i d lt. absurd (omega arith)
  tokens_home text h (g.a_blank cut is) = tokens_home text h cut
  tokens_home text h (g.a_line w cut one two each s) = tokens_home text h cut
  tokens_home text h (g.a_block cut one two inside slash) = tokens_home text h cut
  tokens_home text h (g.a_name {done = done} {path = path} {from = from} {name = name} {rest = rest} w cut is ends) = one_more done (name_kind path) from _ 0 name (tokens_home text h cut) (name_home is (front w rest (cut_home text h cut)))
  tokens_home text h (g.a_root {done = done} {m = b} {rest = rest} cut is s) = one_more done k.Path b.place _ 0 (92 ∷ []) (tokens_home text h cut) (first b rest (cut_home text h cut))
  tokens_home text h (g.a_zero {done = done} {m = b} {rest = rest} cut is no_digit no_x none) = one_more done k.Number b.place _ 0 [] (tokens_home text h cut) (first b rest (cut_home text h cut))
  tokens_home text h (g.a_number {done = done} {from = from} {value = value} {rest = rest} w cut is small no_digit none) = one_more done k.Number from _ value [] (tokens_home text h cut) (numeral_home is (front w rest (cut_home text h cut)))
  tokens_home text h (g.a_string {done = done} {q = q} {string = string} {bytes = bytes} cut is content ends) = one_more done k.Text q.place _ 0 string (tokens_home text h cut) (first q bytes (cut_home text h cut))
  tokens_home text h (g.a_caret {done = done} {m = b} {rest = rest} cut is no_equals no_name) = one_more done k.Symbol b.place _ 0 (94 ∷ []) (tokens_home text h cut) (first b rest (cut_home text h cut))
  tokens_home text h (g.caret_equals {done = done} {m = b} {e = e} {rest = rest} cut is equals) = one_more done k.Symbol b.place _ 0 (94 ∷ 61 ∷ []) (tokens_home text h cut) (first b (e ∷ rest) (cut_home text h cut))
  tokens_home text h (g.a_slash {done = done} {m = b} {rest = rest} cut is s) = one_more done k.Symbol b.place _ 0 (47 ∷ []) (tokens_home text h cut) (first b rest (cut_home text h cut))
  tokens_home text h (g.slash_equals {done = done} {m = b} {e = e} {rest = rest} cut is equals) = one_more done k.Symbol b.place _ 0 (47 ∷ 61 ∷ []) (tokens_home text h cut) (first b (e ∷ rest) (cut_home text h cut))
  tokens_home text h (g.one_sign {done = done} {m = b} {rest = rest} cut is s) = one_more done k.Symbol b.place _ 0 (b.byte ∷ []) (tokens_home text h cut) (first b rest (cut_home text h cut))
  tokens_home text h (g.two_signs {done = done} {m = b} {n = n} {rest = rest} cut is two s) = one_more done k.Symbol b.place _ 0 (b.byte ∷ n.byte ∷ []) (tokens_home text h cut) (first b (n ∷ rest) (cut_home text h cut))
  tokens_home text h (g.three_signs {done = done} {m = b} {n = n} {o = o} {rest = rest} cut is three) = one_more done k.Symbol b.place _ 0 (b.byte ∷ n.byte ∷ o.byte ∷ []) (tokens_home text h cut) (first b (n ∷ o ∷ rest) (cut_home text h cut))

  -- ---- tokens, and the first fault

  tokens_within : (lines : List Line) (tokens : List Token) → All (λ line. line.file < files) lines → tokens_of lines ≡ Ok tokens → All (λ t. t.place.file < files) tokens
  tokens_within lines tokens h e = tokens_home (joined lines) (joined_home lines (lines_home lines h)) (tokens_are_cut lines tokens e)

  one_home : (message : Message) → message.place.file < files → All (λ (m : Message). m.place.file < files) (message ∷ [])
  one_home message h = All-push (λ (m : Message). m.place.file < files) [] message (λ i d lt. absurd (omega arith)) h

  by_fault : (lines : List Line) (messages : List Message) (r : Result (List Token) Fault) → All (λ line. line.file < files) lines → tokens_of lines ≡ r → Answers (Err (Refused messages)) r → All (λ m. m.place.file < files) messages
  by_fault lines messages (Ok tokens) h e m = absurd m
  by_fault lines messages (Err fault) h e m = subst (λ (ms : List Message). All (λ m. m.place.file < files) ms) (sym m) (one_home (message_of fault) (fault_home lines fault (lines_home lines h) e))

  pub stands_within : (lines : List Line) (r : Result (List Token) Stage) → Answers r (tokens_of lines) → All (λ line. line.file < files) lines → IsWithin files r
  stands_within lines (Ok tokens) answers h = tokens_within lines tokens h answers
  stands_within lines (Err (Refused messages)) answers h = by_fault lines messages (tokens_of lines) h refl answers
  stands_within lines (Err Memory) answers h = tt
