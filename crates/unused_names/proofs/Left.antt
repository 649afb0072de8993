-- A block in which nothing is wrong stays so without the terms that declare its descriptors.
use Rattle.std.proofs.Common.{◌≡◌, Bool, true, false, List, [], refl, sym, ap, ◌∙◌, subst, arith}
use Rattle.std.specs.Prelude.{◌&&◌}
use Rattle.acpi_values.specs.Paths.{AbsolutePath}
use Rattle.asl_tree.specs.Tree.{Tree, Method, Container', Scope, Trees, no_trees, tree, If, ElseIf, Else, While, For, Switch, Case, Default}
use Rattle.asl_meaning.specs.Declarations.{nothing_declared, declarations, is_named, in_root}
use Rattle.acpi_names.specs.Errors.{Whole, whole_of, name_errors, type_errors}
use Rattle.acpi_names.specs.Mentions.{Mention, block_mentions, all_errors, all_types}
use Rattle.acpi_names.specs.Terms.{is_value, is_term, are_terms}
use Rattle.acpi_names.proofs.MentionErrors.{block_errors}
use Rattle.acpi_names.proofs.MentionTypes.{block_types}
use Rattle.name_kinds.specs.Seen.{seen}
use Rattle.name_kinds.proofs.Seeing.{block_seen}
use Rattle.unused_names.specs.Unused.{Drops, AreDeclared, AreSpared}
use Rattle.unused_names.specs.Left.{left_term, left_terms, AllMarks}
use Rattle.unused_names.proofs.Main.{same_start, root_free, no_errors, no_types}
use Rattle.unused_names.proofs.Trees.{block}

-- they are terms if and only if what is left are terms
mutual
  term_same : (t : Tree) → is_term (left_term t) ≡ is_term t
  term_same (Method at name flags body) = terms_same body
  term_same (Container' kind at name body) = terms_same body
  term_same (Scope here at name body) = terms_same body
  term_same (If test body) = ap (λ b. is_value test && b) (terms_same body)
  term_same (ElseIf test body) = ap (λ b. is_value test && b) (terms_same body)
  term_same (Else body) = terms_same body
  term_same (While test body) = ap (λ b. is_value test && b) (terms_same body)
  term_same (For start test step body) = ap (λ b. is_value start && (is_value test && (is_value step && b))) (terms_same body)
  term_same (Switch value cases) = ap (λ b. is_value value && b) (terms_same cases)
  term_same (Case value body) = ap (λ b. is_value value && b) (terms_same body)
  term_same (Default body) = terms_same body
  term_same _ = refl

  pub terms_same : (ts : Trees) → are_terms (left_terms ts) ≡ are_terms ts
  terms_same no_trees = refl
  terms_same (tree t ts) = let h = term_same t in let k = terms_same ts in grind arith

pub terms_left : (ts : Trees) → are_terms ts ≡ true → are_terms (left_terms ts) ≡ true
terms_left ts h = terms_same ts ∙ h

module _ (gone : AbsolutePath → Bool) (program : Trees) (are : are_terms program ≡ true) (marks : AllMarks gone program [] nothing_declared) (declared : AreDeclared gone (block_mentions program [] nothing_declared)) (spared : AreSpared gone (is_named (declarations program)) (block_mentions program [] nothing_declared)) (names : name_errors program ≡ []) where
  abbrev ms : List Mention
  ms = block_mentions program [] nothing_declared

  abbrev others : List Mention
  others = block_mentions (left_terms program) [] nothing_declared

  seen_errors : all_errors (seen ms) ms nothing_declared ≡ []
  seen_errors = ap (λ w. all_errors w ms nothing_declared) (block_seen program are) ∙ sym (block_errors (whole_of program) program are [] nothing_declared) ∙ names

  seen_spared : AreSpared gone (is_named (seen ms).all) ms
  seen_spared = subst-has (ap (λ (w : Whole). is_named w.all) (sym (block_seen program are))) spared
    where
      subst-has : {has other : AbsolutePath → Bool} → has ≡ other → AreSpared gone has ms → AreSpared gone other ms
      subst-has e h = subst (λ has. AreSpared gone has ms) e h

  pub drops : Drops gone ms others
  drops = block gone (seen ms) program [] nothing_declared nothing_declared (record { less = same_start gone; outer = λ p h. (refl, outer p h) }) marks seen_spared seen_errors
    where
      outer : (p : AbsolutePath) → gone p ≡ true → in_root p ≡ false
      outer p h = root_free gone ms declared seen_errors p h

  pub no_names_left : name_errors (left_terms program) ≡ []
  no_names_left =
      block_errors (whole_of (left_terms program)) (left_terms program) (terms_left program are) [] nothing_declared
      ∙ ap (λ w. all_errors w others nothing_declared) (sym (block_seen (left_terms program) (terms_left program are)))
      ∙ no_errors gone ms others drops declared seen_errors seen_spared

  pub no_types_left : type_errors program ≡ [] → type_errors (left_terms program) ≡ []
  no_types_left types =
      block_types (whole_of (left_terms program)) (left_terms program) (terms_left program are) [] nothing_declared no_names_left
      ∙ ap (λ w. all_types w others) (sym (block_seen (left_terms program) (terms_left program are)))
      ∙ no_types gone ms others drops declared seen_errors (ap (λ w. all_types w ms) (block_seen program are) ∙ sym (block_types (whole_of program) program are [] nothing_declared names) ∙ types) seen_spared
