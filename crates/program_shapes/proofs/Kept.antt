-- What the grammar reads is kept: no argument is a separator, a symbol has the operands that it asks for, nothing in braces is left out, and there is less of all than 2^64.
use Rattle.std.proofs.Common.{◌≡◌, ℕ, suc, ◌+◌, ◌<◌, ◌≤◌, ◌^◌, Bool, true, false, List, [], ◌∷◌, ◌++◌, length, Option, Some, None, refl, sym, ap, ◌∙◌, subst, arith}
use Rattle.std.specs.Prelude.{not, ◌||◌, ◌&&◌, if◌then◌else◌}
use Rattle.std.specs.List.{list_all}
use Rattle.std.proofs.lemmas.List.Elements.{All-head, All-tail}
use Rattle.acpi_values.specs.Widths.{ones_of}
use Rattle.acpi_values.specs.declared.width.Width.TheVariants.{W64}
use Rattle.asl_lexer.specs.declared.token.Token.{Token}
use Rattle.asl_lexer.specs.declared.token.TokenKind.{TokenKind}
use Rattle.asl_lexer.specs.declared.token.TokenKind.TheVariants as k
use Rattle.asl_syntax.specs.declared.sign.Sign.{Sign}
use Rattle.asl_syntax.specs.declared.mark.Lexeme.{Lexeme}
use Rattle.asl_syntax.specs.declared.mark.Lexeme.TheVariants as l
use Rattle.asl_syntax.specs.declared.mark.Mark.{Mark}
use Rattle.asl_syntax.specs.declared.raw.Raw.{Raw}
use Rattle.asl_syntax.specs.Marks.{marks, lexeme_by, symbol}
use Rattle.asl_syntax.specs.Signs.{SignRow, same, found, signs, sign_of, strength}
use Rattle.asl_syntax.specs.declared.sign.Sign.TheVariants as s
use Rattle.asl_syntax.specs.declared.sign.Strength.{Strength}
use Rattle.asl_syntax.specs.declared.raw.Infix.{Infix}
use Rattle.iasl_messages.specs.declared.place.Place.{Place}
use Rattle.asl_syntax.specs.Trees as t
use Rattle.asl_syntax.specs.Trees.{Tree, Trees, TreeGroup, none, more, absent, given, raw_of, raws_of, raws_in}
use Rattle.asl_parser.specs.Grammar.{Phrase, expression, arguments, body, before, argument, brace_list, members, member, sequence, all, Reads, IsSource, Spells, a_number, a_text, an_item, in_brackets, an_index, a_postfix, a_prefix, an_infix, tighter, no_arguments, some_arguments}
use Rattle.asl_parser.specs.Grammar.{none_given, last_given, last_left_out, none_before, one_before, one_left_out, an_argument, a_list_argument, empty_list, a_list, no_members, more_members, a_word, an_inner_list, no_body, a_body, an_empty_row, a_comma, a_semicolon, one_more}
use Rattle.asl_parser.specs.Grammar as g
use Rattle.asl_syntax.specs.Written as piece
use Rattle.asl_syntax.specs.Written.{Written, Writtens, written, writtens, written_in}
use Rattle.asl_words.specs.Operators.{parameters_of}
use Rattle.asl_terms.specs.Symbols.{symbol_of}
use Rattle.asl_shape.specs.Shapes.{is_empty, is_separator, takes}
use Rattle.asl_terms.specs.Terms as shapes
use Rattle.asl_syntax.specs.Views.{written_number, written_text, written_item, written_apply, written_list, written_comma, written_semicolon, written_empty}
use Rattle.program_shapes.proofs.Words.{both_true}
use Rattle.program_shapes.specs.Kept.{IsKept, AreArguments, EachArgument, AreMembers, EachMember, IsKeptSource, AreKeptAlone, HaveShortTexts}

-- ---- how many trees a phrase is of, at most the tokens that it takes

abbrev how_many : Trees → ℕ
how_many none = 0
how_many (more xs x) = suc (how_many xs)

abbrev weight : Phrase → ℕ
weight (expression n e) = 1
weight (sequence n done last) = how_many (all done last)
weight _ = 0

shorter : (phrase : Phrase) (ms rest : List Mark) → Reads phrase ms rest → weight phrase + length rest ≤ length ms
shorter _ _ _ a_number = omega arith
shorter _ _ _ a_text = omega arith
shorter _ _ _ (an_item ra rb) = let a = shorter _ _ _ ra in let b = shorter _ _ _ rb in omega (arith, a, b)
shorter _ _ _ (in_brackets r) = let a = shorter _ _ _ r in omega (arith, a)
shorter _ _ _ (an_index ra rb) = let a = shorter _ _ _ ra in let b = shorter _ _ _ rb in omega (arith, a, b)
shorter _ _ _ (a_postfix r) = let a = shorter _ _ _ r in omega (arith, a)
shorter _ _ _ (a_prefix r) = let a = shorter _ _ _ r in omega (arith, a)
shorter _ _ _ (an_infix e ra rb) = let a = shorter _ _ _ ra in let b = shorter _ _ _ rb in omega (arith, a, b)
shorter _ _ _ (tighter le r) = shorter _ _ _ r
shorter _ _ _ no_arguments = omega arith
shorter _ _ _ (some_arguments r) = let a = shorter _ _ _ r in omega (arith, a)
shorter _ _ _ none_given = omega arith
shorter _ _ _ (last_given ra rb) = let a = shorter _ _ _ ra in let b = shorter _ _ _ rb in omega (arith, a, b)
shorter _ _ _ (last_left_out r) = let a = shorter _ _ _ r in omega (arith, a)
shorter _ _ _ none_before = omega arith
shorter _ _ _ (one_before ra rb) = let a = shorter _ _ _ ra in let b = shorter _ _ _ rb in omega (arith, a, b)
shorter _ _ _ (one_left_out r) = let a = shorter _ _ _ r in omega (arith, a)
shorter _ _ _ (an_argument r) = let a = shorter _ _ _ r in omega (arith, a)
shorter _ _ _ (a_list_argument r) = shorter _ _ _ r
shorter _ _ _ empty_list = omega arith
shorter _ _ _ (a_list ra rb) = let a = shorter _ _ _ ra in let b = shorter _ _ _ rb in omega (arith, a, b)
shorter _ _ _ no_members = omega arith
shorter _ _ _ (more_members ra rb) = let a = shorter _ _ _ ra in let b = shorter _ _ _ rb in omega (arith, a, b)
shorter _ _ _ a_word = omega arith
shorter _ _ _ (an_inner_list r) = shorter _ _ _ r
shorter _ _ _ no_body = omega arith
shorter _ _ _ (a_body r) = let a = shorter _ _ _ r in omega (arith, a)
shorter _ _ _ an_empty_row = omega arith
shorter _ _ _ (a_comma r) = let a = shorter _ _ _ r in omega (arith, a)
shorter _ _ _ (a_semicolon r) = let a = shorter _ _ _ r in omega (arith, a)
shorter _ _ _ (one_more ra follow rb) = let a = shorter _ _ _ ra in let b = shorter _ _ _ rb in omega (arith, a, b)

-- ---- what is kept of trees

abbrev is_argument : Tree → Bool
is_argument (t.a_comma p) = false
is_argument (t.a_semicolon p) = false
is_argument _ = true

abbrev is_there : Tree → Bool
is_there (t.an_empty p) = false
is_there _ = true

-- what stands as an operand
abbrev AsOperand : Tree → Type 0
AsOperand e = (is_argument e ≡ true) × (is_there e ≡ true)

-- whether a symbol has one operand
abbrev is_unary : Infix → Bool
is_unary Infix.Increment = true
is_unary Infix.Decrement = true
is_unary Infix.LogicalNot = true
is_unary Infix.Not = true
is_unary _ = false

abbrev mutual
  TreeKept : Tree → Type 0
  TreeKept (t.a_text p w) = length w < ones_of W64
  TreeKept (t.an_item p w args inner) = ArgumentsKept args × MembersKept inner
  TreeKept (t.a_prefix p o e) = (TreeKept e × AsOperand e) × (is_unary o ≡ true)
  TreeKept (t.a_postfix p o e) = (TreeKept e × AsOperand e) × (is_unary o ≡ true)
  TreeKept (t.a_pair p o a e) = (TreeKept a × AsOperand a) × (TreeKept e × AsOperand e) × (is_unary o ≡ false)
  TreeKept _ = Unit {0}

  ArgumentsKept : TreeGroup → Type 0
  ArgumentsKept absent = Unit {0}
  ArgumentsKept (given xs) = EachArgumentKept xs

  EachArgumentKept : Trees → Type 0
  EachArgumentKept none = Unit {0}
  EachArgumentKept (more xs x) = EachArgumentKept xs × TreeKept x × (is_argument x ≡ true)

  MembersKept : TreeGroup → Type 0
  MembersKept absent = Unit {0}
  MembersKept (given xs) = EachMemberKept xs × (how_many xs ≤ ones_of W64)

  EachMemberKept : Trees → Type 0
  EachMemberKept none = Unit {0}
  EachMemberKept (more xs x) = EachMemberKept xs × TreeKept x × (is_there x ≡ true)

abbrev LastKept : Option Tree → Type 0
LastKept None = Unit {0}
LastKept (Some e) = TreeKept e × (is_there e ≡ true)

abbrev PhraseKept : Phrase → Type 0
PhraseKept (expression n e) = TreeKept e × AsOperand e
PhraseKept (arguments a) = ArgumentsKept a
PhraseKept (body a) = MembersKept a
PhraseKept (g.given xs) = EachArgumentKept xs
PhraseKept (before xs) = EachArgumentKept xs
PhraseKept (argument e) = TreeKept e × (is_argument e ≡ true)
PhraseKept (brace_list e) = TreeKept e × (is_argument e ≡ true)
PhraseKept (members xs) = Unit {0}
PhraseKept (member e) = Unit {0}
PhraseKept (sequence n done last) = EachMemberKept done × LastKept last

-- a sign before or behind an operand is of one operand
abbrev has_operands : Sign → Bool
has_operands (s.Prefix o) = is_unary o
has_operands (s.Postfix o) = is_unary o
has_operands _ = true

abbrev LexemeKept : Lexeme → Type 0
LexemeKept (l.Text w) = length w < ones_of W64
LexemeKept (l.Sign sign) = has_operands sign ≡ true
LexemeKept _ = Unit {0}

abbrev MarksKept : List Mark → Type 0
MarksKept [] = Unit {0}
MarksKept (m ∷ ms) = LexemeKept m.lexeme × MarksKept ms

-- what binds between its operands has two
binary : (o : Infix) {how : Strength} → strength o ≡ Some how → is_unary o ≡ false
unfolding strength
binary Infix.Increment e = absurd cc
binary Infix.Decrement e = absurd cc
binary Infix.LogicalNot e = absurd cc
binary Infix.Not e = absurd cc
binary _ e = refl

all_kept : (first : Trees) (last : Option Tree) → EachMemberKept first × LastKept last → EachMemberKept (all first last)
all_kept first None h = h.0
all_kept first (Some e) h = (h.0, h.1.0, h.1.1)

reads_kept : (phrase : Phrase) (ms rest : List Mark) → Reads phrase ms rest → MarksKept ms → length ms ≤ ones_of W64 → PhraseKept phrase × MarksKept rest
reads_kept _ _ _ a_number h n = ((tt, (refl, refl)), h.1)
reads_kept _ _ _ a_text h n = ((h.0, (refl, refl)), h.1)
reads_kept _ _ _ (an_item ra rb) h n =
    let a = reads_kept _ _ _ ra h.1 (omega (arith, n)) in
    let s = shorter _ _ _ ra in
    let b = reads_kept _ _ _ rb a.1 (omega (arith, n, s)) in
    (((a.0, b.0), (refl, refl)), b.1)
reads_kept _ _ _ (in_brackets r) h n = let a = reads_kept _ _ _ r h.1 (omega (arith, n)) in (a.0, a.1.1)
reads_kept _ _ _ (an_index ra rb) h n =
    let a = reads_kept _ _ _ ra h n in
    let s = shorter _ _ _ ra in
    let b = reads_kept _ _ _ rb a.1.1 (omega (arith, n, s)) in
    (((a.0, b.0, refl), (refl, refl)), b.1.1)
reads_kept _ _ _ (a_postfix r) h n = let a = reads_kept _ _ _ r h n in (((a.0, a.1.0), (refl, refl)), a.1.1)
reads_kept _ _ _ (a_prefix r) h n = let a = reads_kept _ _ _ r h.1 (omega (arith, n)) in (((a.0, h.0), (refl, refl)), a.1)
reads_kept _ _ _ (an_infix {i = o} e ra rb) h n =
    let a = reads_kept _ _ _ ra h n in
    let s = shorter _ _ _ ra in
    let b = reads_kept _ _ _ rb a.1.1 (omega (arith, n, s)) in
    (((a.0, b.0, binary o e), (refl, refl)), b.1)
reads_kept _ _ _ (tighter le r) h n = reads_kept _ _ _ r h n
reads_kept _ _ _ no_arguments h n = (tt, h)
reads_kept _ _ _ (some_arguments r) h n = reads_kept _ _ _ r h.1 (omega (arith, n))
reads_kept _ _ _ none_given h n = (tt, h.1)
reads_kept _ _ _ (last_given ra rb) h n =
    let a = reads_kept _ _ _ ra h n in
    let s = shorter _ _ _ ra in
    let b = reads_kept _ _ _ rb a.1 (omega (arith, n, s)) in
    ((a.0, b.0.0, b.0.1), b.1.1)
reads_kept _ _ _ (last_left_out r) h n = let a = reads_kept _ _ _ r h n in ((a.0, tt, refl), a.1.1)
reads_kept _ _ _ none_before h n = (tt, h)
reads_kept _ _ _ (one_before ra rb) h n =
    let a = reads_kept _ _ _ ra h n in
    let s = shorter _ _ _ ra in
    let b = reads_kept _ _ _ rb a.1 (omega (arith, n, s)) in
    ((a.0, b.0.0, b.0.1), b.1.1)
reads_kept _ _ _ (one_left_out r) h n = let a = reads_kept _ _ _ r h n in ((a.0, tt, refl), a.1.1)
reads_kept _ _ _ (an_argument r) h n = let a = reads_kept _ _ _ r h n in ((a.0.0, a.0.1.0), a.1)
reads_kept _ _ _ (a_list_argument r) h n = reads_kept _ _ _ r h n
reads_kept _ _ _ empty_list h n = ((tt, refl), h.1.1)
reads_kept _ _ _ (a_list ra rb) h n =
    let a = reads_kept _ _ _ ra h.1 (omega (arith, n)) in
    let s = shorter _ _ _ ra in
    let b = reads_kept _ _ _ rb a.1 (omega (arith, n, s)) in
    ((tt, refl), b.1.1)
reads_kept _ _ _ no_members h n = (tt, h)
reads_kept _ _ _ (more_members ra rb) h n =
    let a = reads_kept _ _ _ ra h n in
    let s = shorter _ _ _ ra in
    let b = reads_kept _ _ _ rb a.1 (omega (arith, n, s)) in
    (tt, b.1.1)
reads_kept _ _ _ a_word h n = (tt, h.1)
reads_kept _ _ _ (an_inner_list r) h n = let a = reads_kept _ _ _ r h n in (tt, a.1)
reads_kept _ _ _ no_body h n = (tt, h)
reads_kept _ _ _ (a_body r) h n =
    let a = reads_kept _ _ _ r h.1 (omega (arith, n)) in
    let s = shorter _ _ _ r in
    ((all_kept _ _ a.0, omega (arith, n, s)), a.1.1)
reads_kept _ _ _ an_empty_row h n = ((tt, tt), h)
reads_kept _ _ _ (a_comma r) h n = let a = reads_kept _ _ _ r h n in (((all_kept _ _ a.0, tt, refl), tt), a.1.1)
reads_kept _ _ _ (a_semicolon r) h n = let a = reads_kept _ _ _ r h n in (((all_kept _ _ a.0, tt, refl), tt), a.1.1)
reads_kept _ _ _ (one_more ra follow rb) h n =
    let a = reads_kept _ _ _ ra h n in
    let s = shorter _ _ _ ra in
    let b = reads_kept _ _ _ rb a.1 (omega (arith, n, s)) in
    ((all_kept _ _ a.0, (b.0.0, b.0.1.1)), b.1)

-- ---- the same of what is written

argument_as : (e : Tree) → is_argument e ≡ true → is_separator (written (raw_of e)) ≡ false
argument_as (t.a_number p v) h = ap is_separator (written_number p.place v)
argument_as (t.a_text p w) h = ap is_separator (written_text p.place w)
argument_as (t.an_item p w args inner) h = ap is_separator (written_item p.place w (raws_in args) (raws_in inner))
argument_as (t.a_prefix p o e) h = ap is_separator (written_apply p.place o (raw_of e ∷ []))
argument_as (t.a_postfix p o e) h = ap is_separator (written_apply p.place o (raw_of e ∷ []))
argument_as (t.a_pair p o a e) h = ap is_separator (written_apply p.place o (raw_of a ∷ raw_of e ∷ []))
argument_as (t.a_list p xs) h = ap is_separator (written_list p.place (raws_of xs))
argument_as (t.a_comma p) h = absurd cc
argument_as (t.a_semicolon p) h = absurd cc
argument_as (t.an_empty p) h = ap is_separator written_empty

member_as : (e : Tree) → is_there e ≡ true → is_empty (written (raw_of e)) ≡ false
member_as (t.a_number p v) h = ap is_empty (written_number p.place v)
member_as (t.a_text p w) h = ap is_empty (written_text p.place w)
member_as (t.an_item p w args inner) h = ap is_empty (written_item p.place w (raws_in args) (raws_in inner))
member_as (t.a_prefix p o e) h = ap is_empty (written_apply p.place o (raw_of e ∷ []))
member_as (t.a_postfix p o e) h = ap is_empty (written_apply p.place o (raw_of e ∷ []))
member_as (t.a_pair p o a e) h = ap is_empty (written_apply p.place o (raw_of a ∷ raw_of e ∷ []))
member_as (t.a_list p xs) h = ap is_empty (written_list p.place (raws_of xs))
member_as (t.a_comma p) h = ap is_empty written_comma
member_as (t.a_semicolon p) h = ap is_empty written_semicolon
member_as (t.an_empty p) h = absurd cc

append_arguments : (xs : List Raw) (y : Raw) → EachArgument (writtens xs) → IsKept (written y) → is_separator (written y) ≡ false → EachArgument (writtens (xs ++ y ∷ []))
unfolding writtens
append_arguments [] y h k s = (k, s, tt)
append_arguments (x ∷ xs) y h k s = (h.0, h.1, append_arguments xs y h.2 k s)

append_members : (xs : List Raw) (y : Raw) → EachMember (writtens xs) → IsKept (written y) → is_empty (written y) ≡ false → EachMember (writtens (xs ++ y ∷ []))
unfolding writtens
append_members [] y h k s = (k, s, tt)
append_members (x ∷ xs) y h k s = (h.0, h.1, append_members xs y h.2 k s)

no_arguments_kept : EachArgument (writtens [])
unfolding writtens
no_arguments_kept = tt

no_members_kept : EachMember (writtens [])
unfolding writtens
no_members_kept = tt

one_longer : (xs : List Raw) (y : Raw) → shapes.count (writtens (xs ++ y ∷ [])) ≡ suc (shapes.count (writtens xs))
unfolding writtens
one_longer [] y = refl
one_longer (x ∷ xs) y = ap suc (one_longer xs y)

none_counted : shapes.count (writtens []) ≡ 0
unfolding writtens
none_counted = refl

counted : (xs : Trees) → shapes.count (writtens (raws_of xs)) ≡ how_many xs
counted none = none_counted
counted (more xs x) = one_longer (raws_of xs) (raw_of x) ∙ ap suc (counted xs)

-- ---- the operands of a symbol

one_taken : (o : Infix) (w : Written) → is_unary o ≡ true → is_empty w ≡ false → takes (parameters_of (symbol_of o)) (piece.more w piece.none) ≡ true
unfolding parameters_of
one_taken Infix.Increment w u e = ap (λ b. (false || not b) && true) e
one_taken Infix.Decrement w u e = ap (λ b. (false || not b) && true) e
one_taken Infix.LogicalNot w u e = ap (λ b. (false || not b) && true) e
one_taken Infix.Not w u e = ap (λ b. (false || not b) && true) e
one_taken _ w u e = absurd cc

two_taken : (o : Infix) (v w : Written) → is_unary o ≡ false → is_empty v ≡ false → is_empty w ≡ false → takes (parameters_of (symbol_of o)) (piece.more v (piece.more w piece.none)) ≡ true
unfolding parameters_of
two_taken Infix.Increment v w u e f = absurd cc
two_taken Infix.Decrement v w u e f = absurd cc
two_taken Infix.LogicalNot v w u e f = absurd cc
two_taken Infix.Not v w u e f = absurd cc
two_taken _ v w u e f = ap (λ b. (false || not b) && ((false || not (is_empty w)) && true)) e ∙ ap (λ b. (false || not b) && true) f

-- an operand of what is written
record IsOperand (w : Written) : Type 0 where
  kept : IsKept w
  alone : is_separator w ≡ false
  there : is_empty w ≡ false

one_kept : (place : Place) (o : Infix) (x : Raw) → is_unary o ≡ true → IsOperand (written x) → IsKept (piece.apply place o (writtens (x ∷ [])))
unfolding writtens
one_kept place o x u h = ((h.kept, h.alone, tt), one_taken o (written x) u h.there)

two_kept : (place : Place) (o : Infix) (x y : Raw) → is_unary o ≡ false → IsOperand (written x) → IsOperand (written y) → IsKept (piece.apply place o (writtens (x ∷ y ∷ [])))
unfolding writtens
two_kept place o x y u h k = ((h.kept, h.alone, (k.kept, k.alone, tt)), two_taken o (written x) (written y) u h.there k.there)

as_operand : (e : Tree) → AsOperand e → IsKept (written (raw_of e)) → IsOperand (written (raw_of e))
as_operand e h k = record { kept = k; alone = argument_as e h.0; there = member_as e h.1 }

mutual
  tree_kept : (e : Tree) → TreeKept e → IsKept (written (raw_of e))
  tree_kept (t.a_number p v) h = subst IsKept (sym (written_number p.place v)) tt
  tree_kept (t.a_text p w) h = subst IsKept (sym (written_text p.place w)) h
  tree_kept (t.an_item p w args inner) h = subst IsKept (sym (written_item p.place w (raws_in args) (raws_in inner))) (arguments_kept args h.0, members_kept inner h.1)
  tree_kept (t.a_prefix p o e) h = subst IsKept (sym (written_apply p.place o (raw_of e ∷ []))) (one_kept p.place o (raw_of e) h.1 (as_operand e h.0.1 (tree_kept e h.0.0)))
  tree_kept (t.a_postfix p o e) h = subst IsKept (sym (written_apply p.place o (raw_of e ∷ []))) (one_kept p.place o (raw_of e) h.1 (as_operand e h.0.1 (tree_kept e h.0.0)))
  tree_kept (t.a_pair p o a e) h = subst IsKept (sym (written_apply p.place o (raw_of a ∷ raw_of e ∷ []))) (two_kept p.place o (raw_of a) (raw_of e) h.2 (as_operand a h.0.1 (tree_kept a h.0.0)) (as_operand e h.1.1 (tree_kept e h.1.0)))
  tree_kept (t.a_list p xs) h = subst IsKept (sym (written_list p.place (raws_of xs))) tt
  tree_kept (t.a_comma p) h = subst IsKept (sym written_comma) tt
  tree_kept (t.a_semicolon p) h = subst IsKept (sym written_semicolon) tt
  tree_kept (t.an_empty p) h = subst IsKept (sym written_empty) tt

  arguments_kept : (a : TreeGroup) → ArgumentsKept a → AreArguments (written_in (raws_in a))
  arguments_kept absent h = tt
  arguments_kept (given xs) h = each_argument xs h

  each_argument : (xs : Trees) → EachArgumentKept xs → EachArgument (writtens (raws_of xs))
  each_argument none h = no_arguments_kept
  each_argument (more xs x) h = append_arguments (raws_of xs) (raw_of x) (each_argument xs h.0) (tree_kept x h.1) (argument_as x h.2)

  members_kept : (a : TreeGroup) → MembersKept a → AreMembers (written_in (raws_in a))
  members_kept absent h = tt
  members_kept (given xs) h = (each_member xs h.0, subst (λ n. n ≤ ones_of W64) (sym (counted xs)) h.1)

  each_member : (xs : Trees) → EachMemberKept xs → EachMember (writtens (raws_of xs))
  each_member none h = no_members_kept
  each_member (more xs x) h = append_members (raws_of xs) (raw_of x) (each_member xs h.0) (tree_kept x h.1) (member_as x h.2)

-- ---- sources

source_kept : (ws : Writtens) → EachMember ws → IsKeptSource ws
source_kept (piece.more (piece.item place word args inner) piece.none) h = h.0
source_kept _ h = tt

sign_kept : (text : List ℕ) (rows : List SignRow) → list_all (λ row. has_operands row.sign) rows ≡ true → LexemeKept (symbol (found text rows))
sign_kept text [] h = tt
sign_kept text (row ∷ rows) h = by (same text row.text) (sign_kept text rows (both_true (has_operands row.sign) (list_all (λ row. has_operands row.sign) rows) h).1)
  where
    by : (b : Bool) → LexemeKept (symbol (found text rows)) → LexemeKept (symbol (if b then Some row.sign else found text rows))
    by true k = (both_true (has_operands row.sign) (list_all (λ row. has_operands row.sign) rows) h).0
    by false k = k

all_signs : list_all (λ row. has_operands row.sign) signs ≡ true
all_signs = refl

symbol_kept : (text : List ℕ) → LexemeKept (symbol (sign_of text))
unfolding sign_of
symbol_kept text = sign_kept text signs all_signs

lexeme_kept : (kind : TokenKind) (n : ℕ) (text : List ℕ) → length text < 2 ^ 32 → LexemeKept (lexeme_by kind n text)
lexeme_kept k.Word n text h = tt
lexeme_kept k.Path n text h = tt
lexeme_kept k.Number n text h = tt
lexeme_kept k.Text n text h = omega (arith, h)
lexeme_kept k.Symbol n text h = symbol_kept text

marks_kept : (n : ℕ) (tokens : List Token) → HaveShortTexts tokens → MarksKept (marks n tokens)
marks_kept n [] h = tt
marks_kept n (token ∷ tokens) h =
    (lexeme_kept token.kind token.number token.text (All-head (λ token. length token.text < 2 ^ 32) token tokens h), marks_kept (suc n) tokens (All-tail (λ token. length token.text < 2 ^ 32) token tokens h))

marks_length : (n : ℕ) (tokens : List Token) → length (marks n tokens) ≡ length tokens
marks_length n [] = refl
marks_length n (token ∷ tokens) = ap suc (marks_length (suc n) tokens)

members_of : (items : List Raw) (tokens : List Token) → Spells items tokens → length tokens < 2 ^ 32 → HaveShortTexts tokens → EachMember (writtens items)
members_of items tokens spelled few short =
    let room : length (marks 0 tokens) ≤ ones_of W64 = omega (arith, few, marks_length 0 tokens) in
    let row : EachMemberKept (all spelled.source.done spelled.source.last) = all_kept spelled.source.done spelled.source.last (reads_kept _ _ _ spelled.source.row (marks_kept 0 tokens short) room).0 in
    subst (λ xs. EachMember (writtens xs)) (sym spelled.are) (each_member spelled.trees (subst EachMemberKept (sym spelled.source.are) row))

-- each item is kept where it is read alone
alone_kept : (items : List Raw) → EachMember (writtens items) → AreKeptAlone items
unfolding writtens
alone_kept [] h = tt
alone_kept (raw ∷ raws) h = (source_kept (piece.more (written raw) piece.none) (h.0, h.1, tt), alone_kept raws h.2)

-- a source that the grammar reads is kept
pub is_kept : (items : List Raw) (tokens : List Token) → Spells items tokens → length tokens < 2 ^ 32 → HaveShortTexts tokens → AreKeptAlone items
is_kept items tokens spelled few short = alone_kept items (members_of items tokens spelled few short)
