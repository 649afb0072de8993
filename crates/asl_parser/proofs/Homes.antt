-- Each part of a source stands where one of its tokens stands.
use Rattle.std.proofs.Common.{ℕ, suc, ◌<◌, List, [], ◌∷◌, ◌++◌, Option, Some, None, sym, subst}
use Rattle.std.specs.List.{All}
use Rattle.std.proofs.lemmas.List.Elements.{All-head, All-tail}
use Rattle.asl_lexer.specs.declared.token.Token.{Token}
use Rattle.asl_syntax.specs.declared.mark.Mark.{Mark}
use Rattle.asl_syntax.specs.declared.raw.Raw.{Raw}
use Rattle.asl_syntax.specs.Marks.{marks}
use Rattle.asl_syntax.specs.Trees as t
use Rattle.asl_syntax.specs.Trees.{Tree, Trees, TreeGroup, none, more, absent, given, raw_of, raws_of, raws_in}
use Rattle.asl_parser.specs.Grammar.{Phrase, expression, arguments, body, before, argument, brace_list, members, member, sequence, all, Reads, IsSource, Spells, a_number, a_text, an_item, in_brackets, an_index, a_postfix, a_prefix, an_infix, tighter, no_arguments, some_arguments}
use Rattle.asl_parser.specs.Grammar.{none_given, last_given, last_left_out, none_before, one_before, one_left_out, an_argument, a_list_argument, empty_list, a_list, no_members, more_members, a_word, an_inner_list, no_body, a_body, an_empty_row, a_comma, a_semicolon, one_more}
use Rattle.asl_parser.specs.Grammar as g
use Rattle.asl_syntax.specs.Written.{written, writtens, written_in}
use Rattle.asl_syntax.specs.Views.{written_number, written_text, written_item, written_apply, written_list, written_comma, written_semicolon, written_empty}
use Rattle.asl_syntax.specs.Within.{IsWithin, AreWithin, IsGroupWithin}

module _ (files : ℕ) where
  abbrev mutual
    TreeIn : Tree → Type 0
    TreeIn (t.a_number p v) = p.place.file < files
    TreeIn (t.a_text p w) = p.place.file < files
    TreeIn (t.an_item p w args inner) = (p.place.file < files) × GroupIn args × GroupIn inner
    TreeIn (t.a_prefix p o e) = (p.place.file < files) × TreeIn e
    TreeIn (t.a_postfix p o e) = (p.place.file < files) × TreeIn e
    TreeIn (t.a_pair p o a e) = (p.place.file < files) × TreeIn a × TreeIn e
    TreeIn (t.a_list p xs) = (p.place.file < files) × TreesIn xs
    TreeIn _ = Unit {0}

    TreesIn : Trees → Type 0
    TreesIn none = Unit {0}
    TreesIn (more xs x) = TreesIn xs × TreeIn x

    GroupIn : TreeGroup → Type 0
    GroupIn absent = Unit {0}
    GroupIn (given xs) = TreesIn xs

  abbrev MarksIn : List Mark → Type 0
  MarksIn [] = Unit {0}
  MarksIn (m ∷ ms) = (m.spot.place.file < files) × MarksIn ms

  abbrev MaybeIn : Option Tree → Type 0
  MaybeIn None = Unit {0}
  MaybeIn (Some e) = TreeIn e

  abbrev PhraseIn : Phrase → Type 0
  PhraseIn (expression n e) = TreeIn e
  PhraseIn (arguments a) = GroupIn a
  PhraseIn (body a) = GroupIn a
  PhraseIn (g.given xs) = TreesIn xs
  PhraseIn (before xs) = TreesIn xs
  PhraseIn (argument e) = TreeIn e
  PhraseIn (brace_list e) = TreeIn e
  PhraseIn (members xs) = TreesIn xs
  PhraseIn (member e) = TreeIn e
  PhraseIn (sequence n done last) = TreesIn done × MaybeIn last

  all_in : (first : Trees) (last : Option Tree) → TreesIn first × MaybeIn last → TreesIn (all first last)
  all_in first None h = h.0
  all_in first (Some e) h = (h.0, h.1)

  reads_in : (phrase : Phrase) (ms rest : List Mark) → Reads phrase ms rest → MarksIn ms → PhraseIn phrase × MarksIn rest
  reads_in _ _ _ a_number h = (h.0, h.1)
  reads_in _ _ _ a_text h = (h.0, h.1)
  reads_in _ _ _ (an_item ra rb) h = let a = reads_in _ _ _ ra h.1 in let b = reads_in _ _ _ rb a.1 in ((h.0, a.0, b.0), b.1)
  reads_in _ _ _ (in_brackets r) h = let a = reads_in _ _ _ r h.1 in (a.0, a.1.1)
  reads_in _ _ _ (an_index ra rb) h = let a = reads_in _ _ _ ra h in let b = reads_in _ _ _ rb a.1.1 in ((a.1.0, a.0, b.0), b.1.1)
  reads_in _ _ _ (a_postfix r) h = let a = reads_in _ _ _ r h in ((a.1.0, a.0), a.1.1)
  reads_in _ _ _ (a_prefix r) h = let a = reads_in _ _ _ r h.1 in ((h.0, a.0), a.1)
  reads_in _ _ _ (an_infix e ra rb) h = let a = reads_in _ _ _ ra h in let b = reads_in _ _ _ rb a.1.1 in ((a.1.0, a.0, b.0), b.1)
  reads_in _ _ _ (tighter le r) h = reads_in _ _ _ r h
  reads_in _ _ _ no_arguments h = (tt, h)
  reads_in _ _ _ (some_arguments r) h = reads_in _ _ _ r h.1
  reads_in _ _ _ none_given h = (tt, h.1)
  reads_in _ _ _ (last_given ra rb) h = let a = reads_in _ _ _ ra h in let b = reads_in _ _ _ rb a.1 in ((a.0, b.0), b.1.1)
  reads_in _ _ _ (last_left_out r) h = let a = reads_in _ _ _ r h in ((a.0, tt), a.1.1)
  reads_in _ _ _ none_before h = (tt, h)
  reads_in _ _ _ (one_before ra rb) h = let a = reads_in _ _ _ ra h in let b = reads_in _ _ _ rb a.1 in ((a.0, b.0), b.1.1)
  reads_in _ _ _ (one_left_out r) h = let a = reads_in _ _ _ r h in ((a.0, tt), a.1.1)
  reads_in _ _ _ (an_argument r) h = reads_in _ _ _ r h
  reads_in _ _ _ (a_list_argument r) h = reads_in _ _ _ r h
  reads_in _ _ _ empty_list h = ((h.0, tt), h.1.1)
  reads_in _ _ _ (a_list ra rb) h = let a = reads_in _ _ _ ra h.1 in let b = reads_in _ _ _ rb a.1 in ((h.0, (a.0, b.0)), b.1.1)
  reads_in _ _ _ no_members h = (tt, h)
  reads_in _ _ _ (more_members ra rb) h = let a = reads_in _ _ _ ra h in let b = reads_in _ _ _ rb a.1 in ((a.0, b.0), b.1.1)
  reads_in _ _ _ a_word h = ((h.0, tt, tt), h.1)
  reads_in _ _ _ (an_inner_list r) h = reads_in _ _ _ r h
  reads_in _ _ _ no_body h = (tt, h)
  reads_in _ _ _ (a_body r) h = let a = reads_in _ _ _ r h.1 in (all_in _ _ a.0, a.1.1)
  reads_in _ _ _ an_empty_row h = ((tt, tt), h)
  reads_in _ _ _ (a_comma r) h = let a = reads_in _ _ _ r h in (((all_in _ _ a.0, tt), tt), a.1.1)
  reads_in _ _ _ (a_semicolon r) h = let a = reads_in _ _ _ r h in (((all_in _ _ a.0, tt), tt), a.1.1)
  reads_in _ _ _ (one_more ra follow rb) h = let a = reads_in _ _ _ ra h in let b = reads_in _ _ _ rb a.1 in ((all_in _ _ a.0, b.0), b.1)

  cons_within : (raw : Raw) (raws : List Raw) → IsWithin files (written raw) → AreWithin files (writtens raws) → AreWithin files (writtens (raw ∷ raws))
  unfolding writtens
  cons_within raw raws h k = (h, k)

  append_within : (xs ys : List Raw) → AreWithin files (writtens xs) → AreWithin files (writtens ys) → AreWithin files (writtens (xs ++ ys))
  unfolding writtens
  append_within [] ys h k = k
  append_within (x ∷ xs) ys h k = (h.0, append_within xs ys h.1 k)

  none_within : AreWithin files (writtens [])
  unfolding writtens
  none_within = tt

  mutual
    tree_within : (e : Tree) → TreeIn e → IsWithin files (written (raw_of e))
    tree_within (t.a_number p v) h = subst (IsWithin files) (sym (written_number p.place v)) h
    tree_within (t.a_text p w) h = subst (IsWithin files) (sym (written_text p.place w)) h
    tree_within (t.an_item p w args inner) h = subst (IsWithin files) (sym (written_item p.place w (raws_in args) (raws_in inner))) (h.0, group_within args h.1, group_within inner h.2)
    tree_within (t.a_prefix p o e) h = subst (IsWithin files) (sym (written_apply p.place o (raw_of e ∷ []))) (h.0, cons_within (raw_of e) [] (tree_within e h.1) none_within)
    tree_within (t.a_postfix p o e) h = subst (IsWithin files) (sym (written_apply p.place o (raw_of e ∷ []))) (h.0, cons_within (raw_of e) [] (tree_within e h.1) none_within)
    tree_within (t.a_pair p o a e) h =
        subst (IsWithin files) (sym (written_apply p.place o (raw_of a ∷ raw_of e ∷ []))) (h.0, cons_within (raw_of a) (raw_of e ∷ []) (tree_within a h.1) (cons_within (raw_of e) [] (tree_within e h.2) none_within))
    tree_within (t.a_list p xs) h = subst (IsWithin files) (sym (written_list p.place (raws_of xs))) (h.0, trees_within xs h.1)
    tree_within (t.a_comma p) h = subst (IsWithin files) (sym written_comma) tt
    tree_within (t.a_semicolon p) h = subst (IsWithin files) (sym written_semicolon) tt
    tree_within (t.an_empty p) h = subst (IsWithin files) (sym written_empty) tt

    trees_within : (xs : Trees) → TreesIn xs → AreWithin files (writtens (raws_of xs))
    trees_within none h = none_within
    trees_within (more xs x) h = append_within (raws_of xs) (raw_of x ∷ []) (trees_within xs h.0) (cons_within (raw_of x) [] (tree_within x h.1) none_within)

    group_within : (a : TreeGroup) → GroupIn a → IsGroupWithin files (written_in (raws_in a))
    group_within absent h = tt
    group_within (given xs) h = trees_within xs h

  marks_in : (n : ℕ) (tokens : List Token) → All (λ token. token.place.file < files) tokens → MarksIn (marks n tokens)
  marks_in n [] h = tt
  marks_in n (token ∷ tokens) h = (All-head (λ token. token.place.file < files) token tokens h, marks_in (suc n) tokens (All-tail (λ token. token.place.file < files) token tokens h))

  -- the parts of a source whose tokens stand in some files stand in these
  pub spelled_within : (items : List Raw) (tokens : List Token) → Spells items tokens → All (λ token. token.place.file < files) tokens → AreWithin files (writtens items)
  spelled_within items tokens spelled h =
      let row : TreesIn (all spelled.source.done spelled.source.last) = all_in spelled.source.done spelled.source.last (reads_in _ _ _ spelled.source.row (marks_in 0 tokens h)).0 in
      subst (λ xs. AreWithin files (writtens xs)) (sym spelled.are) (trees_within spelled.trees (subst TreesIn (sym spelled.source.are) row))
