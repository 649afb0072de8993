-- What the words and paths of a source come to fits its bytes.
use Rattle.std.proofs.Common.{◌≡◌, ℕ, zero, suc, ◌<◌, ◌≤◌, Bool, true, false, List, [], ◌∷◌, length, drop, Option, Some, None, refl, sym, ap, subst, arith}
use Rattle.std.specs.Prelude.{◌==◌, ◌&&◌, nat_lt, nat_le, if◌then◌else◌, not}
use Rattle.std.specs.Option.{IfSome}
use Rattle.std.specs.List.{find, list_all}
use Rattle.std.proofs.lemmas.Bool.{leb-true}
use Rattle.acpi_state.specs.Outcomes.{choose}
use Rattle.acpi_values.specs.Paths.{NameSeg}
use Rattle.asl_tree.specs.declared.term.Op.{Op}
use Rattle.aml_code.specs.Fronts.{IsUsedName, AreSegments, is_segment, HasStart}
use Rattle.asl_words.specs.declared.operator.Named.{Named}
use Rattle.asl_words.specs.declared.operator.Known.{Known}
use Rattle.asl_words.specs.declared.operator.Known.TheVariants as known
use Rattle.word_meanings.specs.declared.meaning.Meaning.{Meaning}
use Rattle.word_meanings.specs.declared.meaning.Meaning.TheVariants as is
use Rattle.asl_words.specs.Operators.{operators, words, row_in, named_in, op_in, known_in, operator_of, word_of, is_filled}
use Rattle.asl_words.specs.declared.operator.Operator.{Operator}
use Rattle.asl_tree.specs.declared.term.Symbolic.TheVariants as Symbolic
use Rattle.asl_syntax.specs.declared.raw.Infix.{Infix}
use Rattle.acpi_values.specs.declared.operator.DataOp.TheVariants as DataOp
use Rattle.acpi_values.specs.declared.operator.Plain.{Plain}
use Rattle.asl_terms.specs.Symbols.{symbol_of}
use Rattle.asl_words.specs.Paths.{is_lead, is_name_byte, is_dot, is_path, segment_with, segment_of, with_first, words_of, behind_segment, segments_of, segments_in, rest_segments, path_with, carets, relative_path, path_of}
use Rattle.word_meanings.specs.Meanings.{meaning_of, name_or_unknown, known_as}

-- ---- paths

chosen : {A B : Type 0} (P : B → Type 0) (o : Option A) (f : A → Option B) → IfSome o (λ a. IfSome (f a) P) → IfSome (choose o None f) P
chosen P None f h = tt
chosen P (Some a) f h = h

with_ok : (a b c d : ℕ) → IfSome (segment_with a b c d) (λ segment. is_segment segment ≡ true)
with_ok a b c d = by (is_lead a && (is_name_byte b && (is_name_byte c && is_name_byte d))) refl
  where
    by : (t : Bool) → (is_lead a && (is_name_byte b && (is_name_byte c && is_name_byte d))) ≡ t → IfSome (if t then Some (a ∷ b ∷ c ∷ d ∷ []) else None) (λ segment. is_segment segment ≡ true)
    by true e = e
    by false e = tt

segment_ok : (text : List ℕ) → IfSome (segment_of text) (λ segment. is_segment segment ≡ true)
segment_ok [] = tt
segment_ok (a ∷ []) = with_ok a 95 95 95
segment_ok (a ∷ b ∷ []) = with_ok a b 95 95
segment_ok (a ∷ b ∷ c ∷ []) = with_ok a b c 95
segment_ok (a ∷ b ∷ c ∷ d ∷ []) = with_ok a b c d
segment_ok (a ∷ b ∷ c ∷ d ∷ e ∷ es) = tt

-- segments that are as many as the words, and no more than may be
record AreFrom (n many : ℕ) (segs : List NameSeg) : Type 0 where
  pub good : AreSegments segs
  pub few : length segs ≤ n
  pub number : length segs ≡ many

segments_ok : (texts : List (List ℕ)) (n : ℕ) → IfSome (segments_of texts n) (AreFrom n (length texts))
segments_ok [] n = record { good = tt; few = omega arith; number = refl }
segments_ok (text ∷ texts) zero = tt
segments_ok (text ∷ texts) (suc n) = chosen (AreFrom (suc n) (suc (length texts))) (segment_of text) (λ segment. behind_segment segment (segments_of texts n)) (first (segment_of text) (segment_ok text) (segments_ok texts n))
  where
    behind : (segment : NameSeg) → is_segment segment ≡ true → (o : Option (List NameSeg)) → IfSome o (AreFrom n (length texts)) → IfSome (behind_segment segment o) (AreFrom (suc n) (suc (length texts)))
    behind segment h None k = tt
    behind segment h (Some segs) k = record { good = (h, k.good); few = let le : length segs ≤ n = k.few in omega (arith, le); number = ap suc k.number }

    first : (o : Option NameSeg) → IfSome o (λ segment. is_segment segment ≡ true) → IfSome (segments_of texts n) (AreFrom n (length texts))
        → IfSome o (λ segment. IfSome (behind_segment segment (segments_of texts n)) (AreFrom (suc n) (suc (length texts))))
    first None h k = tt
    first (Some segment) h k = behind segment h (segments_of texts n) k

some_word : (text : List ℕ) → 1 ≤ length (words_of text)
some_word [] = omega arith
some_word (b ∷ bytes) = by (is_dot b) (words_of bytes)
  where
    by : (t : Bool) (ws : List (List ℕ)) → 1 ≤ length (if t then [] ∷ ws else with_first b ws)
    by true ws = omega arith
    by false [] = omega arith
    by false (w ∷ ws) = omega arith

-- what stands behind a prefix
record AreBehind (text : List ℕ) (segs : List NameSeg) : Type 0 where
  pub good : AreSegments segs
  pub few : length segs ≤ 255
  pub some : 1 ≤ length text → 1 ≤ length segs

rest_ok : (text : List ℕ) → IfSome (rest_segments text) (AreBehind text)
unfolding segments_in
rest_ok [] = record { good = tt; few = omega arith; some = λ h. h }
rest_ok (b ∷ bytes) = by (segments_of (words_of (b ∷ bytes)) 255) (segments_ok (words_of (b ∷ bytes)) 255)
  where
    by : (o : Option (List NameSeg)) → IfSome o (AreFrom 255 (length (words_of (b ∷ bytes)))) → IfSome o (AreBehind (b ∷ bytes))
    by None h = tt
    by (Some segs) h = record { good = h.good; few = h.few; some = λ k. subst (λ n. 1 ≤ n) (sym h.number) (some_word (b ∷ bytes)) }

pub path_ok : (text : List ℕ) → IfSome (path_of text) IsUsedName
path_ok [] = tt
path_ok (b ∷ bytes) = first (b == 92)
  where
    rooted : (o : Option (List NameSeg)) → IfSome o (AreBehind bytes) → IfSome (path_with true 0 o) IsUsedName
    rooted None h = tt
    rooted (Some segs) h = record { is_name = record { segments = h.good; count = h.few; rooted = λ e. refl }; start = tt }

    begins : (n : ℕ) (segs : List NameSeg) → (n ≡ 0 → 1 ≤ length segs) → HasStart false n segs
    begins zero [] h = absurd (let le : 1 ≤ 0 = h refl in omega (arith, le))
    begins zero (seg ∷ segs) h = tt
    begins (suc n) segs h = tt

    -- where there is no caret, the whole text stands behind
    whole : (n : ℕ) → n ≡ 0 → 1 ≤ length (drop n (b ∷ bytes))
    whole n e = subst (λ n. 1 ≤ length (drop n (b ∷ bytes))) (sym e) (omega arith)

    relative : (n : ℕ) (o : Option (List NameSeg)) → IfSome o (AreBehind (drop n (b ∷ bytes))) → IfSome (path_with false n o) IsUsedName
    relative n None h = tt
    relative n (Some segs) h = record { is_name = record { segments = h.good; count = h.few; rooted = λ e. absurd cc }; start = begins n segs (λ e. h.some (whole n e)) }

    few : (t : Bool) (n : ℕ) → IfSome (if t then path_with false n (rest_segments (drop n (b ∷ bytes))) else None) IsUsedName
    few true n = relative n (rest_segments (drop n (b ∷ bytes))) (rest_ok (drop n (b ∷ bytes)))
    few false n = tt

    first : (t : Bool) → IfSome (if t then path_with true 0 (rest_segments bytes) else relative_path (b ∷ bytes)) IsUsedName
    first true = rooted (rest_segments bytes) (rest_ok bytes)
    first false = few (nat_lt (carets (b ∷ bytes)) 4294967296) (carets (b ∷ bytes))

-- ---- words

pub both_true : (a b : Bool) → (a && b) ≡ true → (a ≡ true) × (b ≡ true)
both_true true b e = (refl, e)
both_true false b e = absurd cc

found_ok : {A : Type 0} (good test : A → Bool) (rows : List A) → list_all good rows ≡ true → IfSome (find test rows) (λ row. good row ≡ true)
found_ok good test [] h = tt
found_ok good test (row ∷ rows) h = by (test row) (found_ok good test rows (both_true (good row) (list_all good rows) h).1)
  where
    by : (t : Bool) → IfSome (find test rows) (λ row. good row ≡ true) → IfSome (if t then Some row else find test rows) (λ row. good row ≡ true)
    by true k = (both_true (good row) (list_all good rows) h).0
    by false k = k

-- an operator that can be written: no symbol stands for DerefOf
abbrev pub IsSpelled : Op → Type 0
IsSpelled (Op.Symbolic (Symbolic.Operator (Plain.Data DataOp.DerefOf))) = ⊥
IsSpelled op = Unit {0}

-- a slot, or a number of one byte
abbrev pub IsRightKnown : Known → Type 0
IsRightKnown (known.Local i) = i < 8
IsRightKnown (known.Arg i) = i < 7
IsRightKnown (known.Word kind n) = n ≤ 255
IsRightKnown _ = Unit {0}

abbrev pub IsRightMeaning : Meaning → Type 0
IsRightMeaning (is.Operator op) = IsSpelled op
IsRightMeaning (is.Known known) = IsRightKnown known
IsRightMeaning _ = Unit {0}

-- the same, computed
abbrev is_word : Op → Bool
is_word (Op.Symbolic symbol) = false
is_word op = true

word_spelled : (op : Op) → is_word op ≡ true → IsSpelled op
word_spelled (Op.Symbolic symbol) e = absurd cc
word_spelled op e = tt

pub symbol_spelled : (o : Infix) → IsSpelled (symbol_of o)
symbol_spelled Infix.Index = tt
symbol_spelled _ = tt

abbrev is_right : Known → Bool
is_right (known.Local i) = nat_le (suc i) 8
is_right (known.Arg i) = nat_le (suc i) 7
is_right (known.Word kind n) = nat_le n 255
is_right _ = true

right : (k : Known) → is_right k ≡ true → IsRightKnown k
right (known.Local i) e = leb-true (suc i) 8 e
right (known.Arg i) e = leb-true (suc i) 7 e
right (known.Word kind n) e = leb-true n 255 e
right known.Debug e = tt
right (known.Element w) e = tt
right (known.Macro m) e = tt
right known.Template e = tt
right (known.Descriptor d) e = tt
right known.LeftOut e = tt

all_words : list_all (λ row. is_word row.op) operators ≡ true
unfolding operators
all_words = refl

all_right : list_all (λ row. is_right row.known) words ≡ true
unfolding words
all_right = refl

operator_ok : (o : Option Operator) → IfSome o (λ row. is_word row.op ≡ true) → IfSome (op_in o) IsSpelled
operator_ok None h = tt
operator_ok (Some row) h = word_spelled row.op h

known_ok : (o : Option Named) → IfSome o (λ row. is_right row.known ≡ true) → IfSome (known_in o) IsRightKnown
known_ok None h = tt
known_ok (Some row) h = right row.known h

operators_ok : (text : List ℕ) → IfSome (operator_of text) IsSpelled
unfolding operator_of row_in
operators_ok text = operator_ok (row_in operators text) (found_ok (λ row. is_word row.op) (λ row. is_filled row.word text) operators all_words)

words_ok : (text : List ℕ) → IfSome (word_of text) IsRightKnown
unfolding word_of named_in
words_ok text = known_ok (named_in words text) (found_ok (λ row. is_right row.known) (λ row. is_filled row.text text) words all_right)

known_means : (k : Known) → IsRightKnown k → IsRightMeaning (known_as k)
known_means known.LeftOut h = tt
known_means (known.Element w) h = tt
known_means (known.Macro m) h = tt
known_means known.Template h = tt
known_means (known.Descriptor d) h = tt
known_means _ h = h

name_means : (text : List ℕ) (has_body : Bool) → IsRightMeaning (name_or_unknown text has_body)
name_means text has_body = by (is_path text) (nat_le (length text) 4 && not has_body)
  where
    by : (t u : Bool) → IsRightMeaning (if t then is.Path else (if u then is.Name else is.Unknown))
    by true u = tt
    by false true = tt
    by false false = tt

pub meaning_ok : (text : List ℕ) (has_body : Bool) → IsRightMeaning (meaning_of text has_body)
meaning_ok text has_body = by (operator_of text) (word_of text) (operators_ok text) (words_ok text)
  where
    by : (o : Option Op) (w : Option Known) → IfSome o IsSpelled → IfSome w IsRightKnown → IsRightMeaning (choose o (choose w (name_or_unknown text has_body) known_as) is.Operator)
    by (Some op) w h k = h
    by None (Some known) h k = known_means known k
    by None None h k = name_means text has_body
