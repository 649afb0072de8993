-- The tables of the code are those of the definition, letter by letter.
use Rattle.std.proofs.Common.{Bor, ◌≡◌, ◌⊎◌, inl, inr, List, [], ◌∷◌, ◌++◌, map, length, take, drop, get_or, ℕ, zero, suc, ◌+◌, ◌-◌, ◌<◌, ◌≤◌, Bool, true, false, Option, Some, None, refl, sym, ap, ◌∙◌, arith}
use Rattle.std.specs.Prelude.{◌==◌, ◌&&◌, ◌||◌, nat_eq, nat_le, cond, if◌then◌else◌}
use Rattle.std.specs.List.{list_all, find}
use Rattle.std.specs.Option.{option_or}
use Rattle.std.specs.Cmp.Lexicographic.{pointwise}
use Rattle.std.proofs.lemmas.List.Folds.{find-append}
use Rattle.std.proofs.lemmas.Bool.{eqb-true, leb-true, leb-false}
use Rattle.std.proofs.lemmas.Bool.Decides.{eqb_tells}
use Rattle.std.proofs.lemmas.List.{get_or-map}
use Rattle.std.proofs.Math.Bool.{and-false}
use Rattle.asl_words.specs.declared.table.TheConstants.{OPERATORS}
use Rattle.asl_words.specs.declared.words.TheConstants.{WORDS}
use Rattle.asl_words.specs.declared.operator.Operator.{Operator}
use Rattle.asl_words.specs.declared.operator.Named.{Named}
use Rattle.asl_words.specs.Operators.{operators, words, row_in, named_in, is_filled, place_of}
use Rattle.asl_words.specs.Begun.{is_blank_first, is_begun, row_begun, named_begun}

-- ---- the tables

abbrev joined : {X : Type 0} → List (List X) → List X
joined [] = []
joined (rows ∷ letters) = rows ++ joined letters

abbrev begins : ℕ → List ℕ → Bool
begins letter [] = false
begins letter (b ∷ bytes) = nat_eq b letter

-- the rows of each list begin with its letter, and the letters stand one behind the other
abbrev by_letters : {X : Type 0} → (X → List ℕ) → ℕ → List (List X) → Bool
by_letters text letter [] = true
by_letters text letter (rows ∷ letters) = list_all (λ row. begins letter (text row)) rows && by_letters text (suc letter) letters

unfoldable pub operator_letters : List (List Operator)
operator_letters = map (λ rows. rows.now) OPERATORS.now

unfoldable pub word_letters : List (List Named)
word_letters = map (λ rows. rows.now) WORDS.now

operators_are : joined operator_letters ≡ operators
unfolding operator_letters operators
operators_are = refl

words_are : joined word_letters ≡ words
unfolding word_letters words
words_are = refl

operators_by_letters : by_letters (λ row. row.word) 65 operator_letters ≡ true
unfolding operator_letters
operators_by_letters = refl

words_by_letters : by_letters (λ row. row.text) 65 word_letters ≡ true
unfolding word_letters
words_by_letters = refl

-- ---- words that differ

unequal : (a b : ℕ) → (a ≡ b → ⊥) → nat_eq a b ≡ false
unequal a b h = by (eqb_tells a b)
  where
    by : ((nat_eq a b ≡ true) × (a ≡ b)) ⊎ ((nat_eq a b ≡ false) × (a ≡ b → ⊥)) → nat_eq a b ≡ false
    by (inl p) = absurd (h p.1)
    by (inr p) = p.0

both : (a b : Bool) → (a && b) ≡ true → (a ≡ true) × (b ≡ true)
both true true e = (refl, refl)
both true false e = absurd (cc)
both false b e = absurd (cc)

-- bytes that begin with another one are no such word
first_differs : (first letter : ℕ) (bytes word : List ℕ) → nat_eq first letter ≡ false → is_filled (first ∷ bytes) (letter ∷ word) ≡ false
first_differs first letter bytes word e = ap (λ b. (b && pointwise nat_eq (take (length word) bytes) word) && list_all (λ b. b == 32) (drop (length word) bytes)) e

module _ (last : ℕ) where
  differs : (bytes front : List ℕ) (byte : ℕ) → length front < length bytes → byte ≡ get_or bytes (length front) byte → nat_eq byte last ≡ false
      → pointwise nat_eq (take (length (front ++ last ∷ [])) bytes) (front ++ last ∷ []) ≡ false
  differs [] front byte lt g e = absurd (omega (arith, lt))
  differs (b ∷ bytes) [] byte lt g e = ap (λ n. nat_eq n last && pointwise nat_eq (take 0 bytes) []) (sym g) ∙ ap (λ c. c && pointwise nat_eq (take 0 bytes) []) e
  differs (b ∷ bytes) (f ∷ front) byte lt g e = ap (λ c. nat_eq b f && c) (differs bytes front byte (omega (arith, lt)) g e) ∙ and-false (nat_eq b f)

  short : (bytes front : List ℕ) → length bytes ≤ length front → pointwise nat_eq (take (length (front ++ last ∷ [])) bytes) (front ++ last ∷ []) ≡ false
  short [] [] le = refl
  short [] (f ∷ front) le = refl
  short (b ∷ bytes) [] le = absurd (omega (arith, le))
  short (b ∷ bytes) (f ∷ front) le = ap (λ c. nat_eq b f && c) (short bytes front (omega (arith, le))) ∙ and-false (nat_eq b f)

  -- bytes with another one in the place of a word's last byte, or with none, are no such word
  pub last_differs : (bytes word front : List ℕ) (byte : ℕ) → word ≡ front ++ last ∷ [] → length front < length bytes → byte ≡ get_or bytes (length front) byte → nat_eq byte last ≡ false → is_begun bytes word ≡ false
  last_differs bytes word front byte w lt g e = ap (is_begun bytes) w ∙ ap (λ c. c && is_blank_first (drop (length (front ++ last ∷ [])) bytes)) (differs bytes front byte lt g e)

  pub last_missing : (bytes word front : List ℕ) → word ≡ front ++ last ∷ [] → length bytes ≤ length front → is_begun bytes word ≡ false
  last_missing bytes word front w le = ap (is_begun bytes) w ∙ ap (λ c. c && is_blank_first (drop (length (front ++ last ∷ [])) bytes)) (short bytes front le)

pub ruleset last_rules = (last_differs, last_missing)

-- ---- blanks behind a blank

-- behind the first blank stand blanks alone
abbrev is_padded : List ℕ → Bool
is_padded [] = true
is_padded (b ∷ bytes) = if nat_eq b 32 then list_all (λ b. b == 32) bytes else is_padded bytes

blanks_padded : (bytes : List ℕ) → list_all (λ b. b == 32) bytes ≡ true → is_padded bytes ≡ true
blanks_padded [] e = refl
blanks_padded (b ∷ bytes) e =
    let p = both (nat_eq b 32) (list_all (λ b. b == 32) bytes) e in
    ap (λ c. if c then list_all (λ b. b == 32) bytes else is_padded bytes) p.0 ∙ p.1

padded_rest : (b : ℕ) (bytes : List ℕ) → is_padded (b ∷ bytes) ≡ true → is_padded bytes ≡ true
padded_rest b bytes e = by_first (nat_eq b 32) e
  where
    by_first : (c : Bool) → (if c then list_all (λ b. b == 32) bytes else is_padded bytes) ≡ true → is_padded bytes ≡ true
    by_first true e = blanks_padded bytes e
    by_first false e = e

padded_behind : (n : ℕ) (bytes : List ℕ) → is_padded bytes ≡ true → is_padded (drop n bytes) ≡ true
padded_behind zero [] e = refl
padded_behind (suc n) [] e = refl
padded_behind zero (b ∷ bytes) e = e
padded_behind (suc n) (b ∷ bytes) e = padded_behind n bytes (padded_rest b bytes e)

first_decides : (bytes : List ℕ) → is_padded bytes ≡ true → is_blank_first bytes ≡ list_all (λ b. b == 32) bytes
first_decides [] e = refl
first_decides (b ∷ bytes) e = by_first (nat_eq b 32) e
  where
    by_first : (c : Bool) → (if c then list_all (λ b. b == 32) bytes else is_padded bytes) ≡ true → c ≡ (c && list_all (λ b. b == 32) bytes)
    by_first true e = sym e
    by_first false e = refl

begun_is_filled : (bytes word : List ℕ) → is_padded bytes ≡ true → is_begun bytes word ≡ is_filled bytes word
begun_is_filled bytes word e = ap (λ c. pointwise nat_eq (take (length word) bytes) word && c) (first_decides (drop (length word) bytes) (padded_behind (length word) bytes e))

module _ {X : Type 0} (text : X → List ℕ) where
  abbrev are_padded : List X → Bool
  are_padded rows = list_all (λ row. is_padded (text row)) rows

  begun_is_found : (word : List ℕ) (rows : List X) → are_padded rows ≡ true → find (λ row. is_begun (text row) word) rows ≡ find (λ row. is_filled (text row) word) rows
  begun_is_found word [] h = refl
  begun_is_found word (row ∷ rows) h =
      let p = both (is_padded (text row)) (are_padded rows) h in
      ap (λ c. cond c (Some row) (find (λ row. is_begun (text row) word) rows)) (begun_is_filled (text row) word p.0)
      ∙ ap (cond (is_filled (text row) word) (Some row)) (begun_is_found word rows p.1)

  padded_at : (letters : List (List X)) (place : ℕ) → list_all are_padded letters ≡ true → are_padded (get_or letters place []) ≡ true
  padded_at [] place h = refl
  padded_at (rows ∷ letters) zero h = (both (are_padded rows) (list_all are_padded letters) h).0
  padded_at (rows ∷ letters) (suc place) h = padded_at letters place (both (are_padded rows) (list_all are_padded letters) h).1

operators_padded : list_all (are_padded (λ row. row.word)) operator_letters ≡ true
unfolding operator_letters
operators_padded = refl

words_padded : list_all (are_padded (λ row. row.text)) word_letters ≡ true
unfolding word_letters
words_padded = refl

-- no row of this letter is the word
abbrev Unlike : List ℕ → ℕ → Type 0
Unlike word letter = (bytes : List ℕ) → begins letter bytes ≡ true → is_filled bytes word ≡ false

unlike_other : (first : ℕ) (rest : List ℕ) (letter : ℕ) → (letter ≡ first → ⊥) → Unlike (first ∷ rest) letter
unlike_other first rest letter ne [] h = absurd (cc)
unlike_other first rest letter ne (b ∷ bytes) h = first_differs b first bytes rest (unequal b first (λ e. ne (sym (eqb-true b letter h) ∙ e)))

unlike_nothing : (letter : ℕ) → 32 < letter → Unlike [] letter
unlike_nothing letter lt [] h = absurd (cc)
unlike_nothing letter lt (b ∷ bytes) h =
    let e : b ≡ letter = eqb-true b letter h in
    ap (λ c. c && list_all (λ b. b == 32) bytes) (unequal b 32 (λ f. absurd (omega (arith, e, f, lt))))

-- ---- rows under their letters

module _ {X : Type 0} (text : X → List ℕ) (word : List ℕ) where
  abbrev look : List X → Option X
  look rows = find (λ row. is_filled (text row) word) rows

  none_in : (letter : ℕ) (rows : List X) → list_all (λ row. begins letter (text row)) rows ≡ true → Unlike word letter → look rows ≡ None
  none_in letter [] h unlike = refl
  none_in letter (row ∷ rows) h unlike =
      let p = both (begins letter (text row)) (list_all (λ row. begins letter (text row)) rows) h in
      ap (λ c. cond c (Some row) (look rows)) (unlike (text row) p.0) ∙ none_in letter rows p.1 unlike

  behind : (letter : ℕ) (rows : List X) (letters : List (List X)) → by_letters text letter (rows ∷ letters) ≡ true → Unlike word letter → look (joined (rows ∷ letters)) ≡ look (joined letters)
  behind letter rows letters h unlike =
      let p = both (list_all (λ row. begins letter (text row)) rows) (by_letters text (suc letter) letters) h in
      find-append (λ row. is_filled (text row) word) rows (joined letters) ∙ ap (λ o. option_or o (look (joined letters))) (none_in letter rows p.0 unlike)

  none_at_all : (letter : ℕ) (letters : List (List X)) → by_letters text letter letters ≡ true → ((n : ℕ) → letter ≤ n → n < letter + length letters → Unlike word n) → look (joined letters) ≡ None
  none_at_all letter [] h unlike = refl
  none_at_all letter (rows ∷ letters) h unlike =
      let p = both (list_all (λ row. begins letter (text row)) rows) (by_letters text (suc letter) letters) h in
      behind letter rows letters h (unlike letter (omega arith) (omega arith))
      ∙ none_at_all (suc letter) letters p.1 (λ n le lt. unlike n (omega (arith, le)) (omega (arith, lt)))

  or_none : (o : Option X) → option_or o None ≡ o
  or_none None = refl
  or_none (Some x) = refl

  -- the rows of the word's letter decide
  found : (first letter place : ℕ) (letters : List (List X)) → ((n : ℕ) → (n ≡ first → ⊥) → Unlike word n) → by_letters text letter letters ≡ true → first ≡ letter + place
      → look (get_or letters place []) ≡ look (joined letters)
  found first letter place [] unlike h e = refl
  found first letter zero (rows ∷ letters) unlike h e =
      let p = both (list_all (λ row. begins letter (text row)) rows) (by_letters text (suc letter) letters) h in
      let after : look (joined letters) ≡ None = none_at_all (suc letter) letters p.1 (λ n le lt. unlike n (λ f. absurd (omega (arith, e, f, le)))) in
      sym (find-append (λ row. is_filled (text row) word) rows (joined letters) ∙ ap (option_or (look rows)) after ∙ or_none (look rows))
  found first letter (suc place) (rows ∷ letters) unlike h e =
      let p = both (list_all (λ row. begins letter (text row)) rows) (by_letters text (suc letter) letters) h in
      found first (suc letter) place letters unlike p.1 (omega (arith, e)) ∙ sym (behind letter rows letters h (unlike letter (λ f. absurd (omega (arith, e, f)))))

module _ {X : Type 0} (text : X → List ℕ) (letters : List (List X)) (ordered : by_letters text 65 letters ≡ true) where
  by_place : (word : List ℕ) (place : ℕ) → place_of word ≡ Some place → look text word (get_or letters place []) ≡ look text word (joined letters)
  by_place [] place e = absurd (cc)
  by_place (b ∷ bytes) place e = found text (b ∷ bytes) b 65 place letters (unlike_other b bytes) ordered (first_is (nat_le 65 b) refl e)
    where
      first_is : (c : Bool) → nat_le 65 b ≡ c → (if c then Some (b - 65) else None) ≡ Some place → b ≡ 65 + place
      first_is true h f = let le : 65 ≤ b = leb-true 65 b h in grind arith
      first_is false h f = absurd (cc)

  nowhere : (word : List ℕ) → place_of word ≡ None → None ≡ look text word (joined letters)
  nowhere [] e = sym (none_at_all text [] 65 letters ordered (λ n from to. unlike_nothing n (omega (arith, from))))
  nowhere (b ∷ bytes) e = sym (none_at_all text (b ∷ bytes) 65 letters ordered (λ n from to. unlike_other b bytes n (λ f. absurd (too_early (nat_le 65 b) refl e n f from))))
    where
      too_early : (c : Bool) → nat_le 65 b ≡ c → (if c then Some (b - 65) else None) ≡ None → (n : ℕ) → n ≡ b → 65 ≤ n → ⊥
      too_early true h g n f from = absurd (cc)
      too_early false h g n f from = let lt : b < 65 = leb-false 65 b h in omega (arith, f, from, lt)

-- ---- words that end in a digit

-- blanks and letters alone
abbrev is_lettered : List ℕ → Bool
is_lettered bytes = list_all (λ b. nat_le b 32 || nat_le 65 b) bytes

module _ (last : ℕ) (from : 48 ≤ last) (to : last ≤ 57) where
  no_digit : (b : ℕ) → (nat_le b 32 || nat_le 65 b) ≡ true → nat_eq b last ≡ false
  no_digit b h = unequal b last (λ e. by_low (nat_le b 32) refl h e)
    where
      by_low : (c : Bool) → nat_le b 32 ≡ c → (c || nat_le 65 b) ≡ true → b ≡ last → ⊥
      by_low true low h e = let le : b ≤ 32 = leb-true b 32 low in omega (arith, le, e, from)
      by_low false low h e = let le : 65 ≤ b = leb-true 65 b h in omega (arith, le, e, to)

  no_last : (bytes front : List ℕ) → is_lettered bytes ≡ true → pointwise nat_eq (take (length (front ++ last ∷ [])) bytes) (front ++ last ∷ []) ≡ false
  no_last [] [] h = refl
  no_last [] (f ∷ front) h = refl
  no_last (b ∷ bytes) [] h =
      let p = both (nat_le b 32 || nat_le 65 b) (is_lettered bytes) h in ap (λ c. c && pointwise nat_eq (take 0 bytes) []) (no_digit b p.0)
  no_last (b ∷ bytes) (f ∷ front) h =
      let p = both (nat_le b 32 || nat_le 65 b) (is_lettered bytes) h in ap (λ c. nat_eq b f && c) (no_last bytes front p.1) ∙ and-false (nat_eq b f)

  none_numbered : (front : List ℕ) (rows : List Operator) → list_all (λ row. is_lettered row.word) rows ≡ true → find (λ row. is_filled row.word (front ++ last ∷ [])) rows ≡ None
  none_numbered front [] h = refl
  none_numbered front (row ∷ rows) h =
      let word = front ++ last ∷ [] in
      let p = both (is_lettered row.word) (list_all (λ row. is_lettered row.word) rows) h in
      ap (λ c. cond (c && list_all (λ b. b == 32) (drop (length word) row.word)) (Some row) (find (λ row. is_filled row.word word) rows)) (no_last row.word front p.0) ∙ none_numbered front rows p.1

operators_lettered : list_all (λ row. is_lettered row.word) operators ≡ true
unfolding operators
operators_lettered = refl

-- no operator's word does
pub numbered_nowhere : (word front : List ℕ) (last : ℕ) → word ≡ front ++ last ∷ [] → 48 ≤ last → last ≤ 57 → row_in operators word ≡ None
unfolding row_in
numbered_nowhere word front last w from to = ap (λ word. find (λ row. is_filled row.word word) operators) w ∙ none_numbered last from to front operators operators_lettered

pub operator_at : (word : List ℕ) (place : ℕ) → place_of word ≡ Some place → row_begun (get_or operator_letters place []) word ≡ row_in operators word
unfolding row_in row_begun
operator_at word place e =
    begun_is_found (λ row. row.word) word (get_or operator_letters place []) (padded_at (λ row. row.word) operator_letters place operators_padded)
    ∙ by_place (λ row. row.word) operator_letters operators_by_letters word place e ∙ ap (λ rows. row_in rows word) operators_are

pub operator_nowhere : (word : List ℕ) → place_of word ≡ None → row_begun [] word ≡ row_in operators word
unfolding row_in row_begun
operator_nowhere word e = nowhere (λ row. row.word) operator_letters operators_by_letters word e ∙ ap (λ rows. row_in rows word) operators_are

pub word_at : (text : List ℕ) (place : ℕ) → place_of text ≡ Some place → named_begun (get_or word_letters place []) text ≡ named_in words text
unfolding named_in named_begun
word_at text place e =
    begun_is_found (λ row. row.text) text (get_or word_letters place []) (padded_at (λ row. row.text) word_letters place words_padded)
    ∙ by_place (λ row. row.text) word_letters words_by_letters text place e ∙ ap (λ rows. named_in rows text) words_are

pub word_nowhere : (text : List ℕ) → place_of text ≡ None → named_begun [] text ≡ named_in words text
unfolding named_in named_begun
word_nowhere text e = nowhere (λ row. row.text) word_letters words_by_letters text e ∙ ap (λ rows. named_in rows text) words_are

-- ---- lists that are lent

module _ {X : Type 0} where
  pub lent_within : (lent : List (Bor (List X))) (place : ℕ) (rows : Bor (List X)) → place < length lent → rows ≡ get_or lent place rows → rows.now ≡ get_or (map (λ rows. rows.now) lent) place []
  lent_within lent place rows lt g = ap (λ rows. rows.now) g ∙ sym (get_or-map (λ rows. rows.now) lent place rows [] lt)

  pub lent_past : (lent : List (Bor (List X))) (place : ℕ) → length lent ≤ place → [] ≡ get_or (map (λ rows. rows.now) lent) place []
  lent_past [] place le = refl
  lent_past (rows ∷ lent) zero le = absurd (omega (arith, le))
  lent_past (rows ∷ lent) (suc place) le = lent_past lent place (omega (arith, le))
