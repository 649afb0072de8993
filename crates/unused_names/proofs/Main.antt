-- Nothing is wrong without names that nothing uses.
use Rattle.std.proofs.Common.{◌≡◌, Bool, true, false, List, [], ◌∷◌, ◌++◌, Option, Some, None, refl, sym, ap, ◌∙◌, arith}
use Rattle.std.specs.Prelude.{if◌then◌else◌, is_some, not, ◌||◌}
use Rattle.acpi_values.specs.Paths.{AbsolutePath, is_same_path}
use Rattle.acpi_state.specs.Objects.{lookup}
use Rattle.acpi_state.specs.Outcomes.{choose}
use Rattle.acpi_state.proofs.Lookups.{is_same_path-true}
use Rattle.asl_tree.specs.declared.path.Path.{Path}
use Rattle.asl_tree.specs.Names.{declared_path}
use Rattle.asl_tree.specs.Tree.{At}
use Rattle.asl_meaning.specs.Declarations.{Declared, ExternalType, Declarations, nothing_declared, in_root, is_named, called, with_declared, with_external}
use Rattle.acpi_names.specs.Errors.{NameError, Twice, DeclaredHere, unless, Whole, is_new, declared_errors, external_errors}
use Rattle.acpi_names.specs.Mentions.{Mention, Used', Sought, Called, Declares, Outside, Opens, after, after_all, call_in, calls_in, mention_errors, mention_types, all_errors, all_types}
use Rattle.name_kinds.specs.Seen.{seen}
use Rattle.unused_names.specs.Unused.{Twin, TwinUse, TwinRegion, TwinSought, TwinCalled, TwinDeclares, TwinOutside, TwinOpens, Drops, NoMentions, Dropped, Stayed, AreDeclared, SparesAll, AreSpared}
use Rattle.unused_names.proofs.Less.{Less, less_twin, less_dropped, less_after, named_less}
use Rattle.unused_names.proofs.Finds.{same_denoted}
use Rattle.unused_names.proofs.Ends.{Lessened, SparesDeclared}
use Rattle.unused_names.proofs.Errors.{left_none, right_none, none_both, errors_moved, types_moved}

new_own : (b c : Bool) (e : NameError) → unless (not (b || c)) e ≡ [] → b ≡ false
new_own true c e h = absurd cc
new_own false c e h = refl

undeclared : (o : Option Declared) (e : NameError) → unless (not (is_some o)) e ≡ [] → is_some o ≡ false
undeclared None e h = refl
undeclared (Some x) e h = absurd cc

module _ (w : Whole) where
  own_after : (ms : List Mention) (d : Declarations) (p : AbsolutePath) → all_errors w ms d ≡ [] → in_root p ≡ true → is_some (lookup d.declared p) ≡ false → is_some (lookup (after_all ms d).declared p) ≡ false
  own_after [] d p h root none = none
  own_after (m ∷ ms) d p h root none = own_after ms (after m d) p (right_none (mention_errors w m d) _ h) root (by_mention m (left_none (mention_errors w m d) _ h))
    where
      by_same : (at : At) (name : Path) (as' : Declared) (scope : AbsolutePath) (b : Bool) → is_same_path (declared_path name scope) p ≡ b → declared_errors w at name scope d ≡ [] → is_some (if b then Some as' else lookup d.declared p) ≡ false
      by_same at name as' scope false e k = none
      by_same at name as' scope true e k =
          absurd (let x = sym (new_own (in_root (declared_path name scope)) (is_some (lookup d.declared (declared_path name scope))) (Twice at (declared_path name scope)) (left_none (unless (is_new d (declared_path name scope)) (Twice at (declared_path name scope))) _ k)) ∙ ap in_root (is_same_path-true (declared_path name scope) p e) ∙ root in grind arith)

      outside : (b : Bool) (path : AbsolutePath) (type : ExternalType) → is_some (lookup (with_external b path type d).declared p) ≡ false
      outside true path type = none
      outside false path type = none

      by_mention : (m : Mention) → mention_errors w m d ≡ [] → is_some (lookup (after m d).declared p) ≡ false
      by_mention (Used' asked at name scope) k = none
      by_mention (Sought at name scope) k = none
      by_mention (Called asked at name args scope) k = none
      by_mention (Declares at name as' scope) k = by_same at name as' scope (is_same_path (declared_path name scope) p) refl k
      by_mention (Outside here at name type scope) k = outside (in_root (declared_path name scope)) (declared_path name scope) type
      by_mention (Opens here at name scope inner) k = none

  outside_after : (ms : List Mention) (d : Declarations) (p : AbsolutePath) → all_errors w ms d ≡ [] → is_some (lookup w.all.declared p) ≡ true → is_some (lookup d.external p) ≡ false → is_some (lookup (after_all ms d).external p) ≡ false
  outside_after [] d p h there none = none
  outside_after (m ∷ ms) d p h there none = outside_after ms (after m d) p (right_none (mention_errors w m d) _ h) there (by_mention m (left_none (mention_errors w m d) _ h))
    where
      by_same : (here at : At) (name : Path) (type : ExternalType) (scope : AbsolutePath) (b : Bool) → is_same_path (declared_path name scope) p ≡ b → external_errors w here at name type scope d ≡ [] → is_some (if b then Some type else lookup d.external p) ≡ false
      by_same here at name type scope false e k = none
      by_same here at name type scope true e k =
          absurd (let x = sym (undeclared (lookup w.all.declared (declared_path name scope)) (DeclaredHere at (declared_path name scope)) (left_none (unless (not (is_some (lookup w.all.declared (declared_path name scope)))) (DeclaredHere at (declared_path name scope))) _ k)) ∙ ap (λ q. is_some (lookup w.all.declared q)) (is_same_path-true (declared_path name scope) p e) ∙ there in grind arith)

      outside : (b : Bool) (here at : At) (name : Path) (type : ExternalType) (scope : AbsolutePath) → external_errors w here at name type scope d ≡ [] → is_some (lookup (with_external b (declared_path name scope) type d).external p) ≡ false
      outside true here at name type scope k = none
      outside false here at name type scope k = by_first (lookup d.external (declared_path name scope))
        where
          by_first : (o : Option ExternalType) → is_some (lookup (choose o ((declared_path name scope, type) ∷ d.external) (λ first. d.external)) p) ≡ false
          by_first None = by_same here at name type scope (is_same_path (declared_path name scope) p) refl k
          by_first (Some first) = none

      by_mention : (m : Mention) → mention_errors w m d ≡ [] → is_some (lookup (after m d).external p) ≡ false
      by_mention (Used' asked at name scope) k = none
      by_mention (Sought at name scope) k = none
      by_mention (Called asked at name args scope) k = none
      by_mention (Declares at name as' scope) k = none
      by_mention (Outside here at name type scope) k = outside (in_root (declared_path name scope)) here at name type scope k
      by_mention (Opens here at name scope inner) k = none

module _ (gone has : AbsolutePath → Bool) where
  sources_after : (ms : List Mention) (d : Declarations) → AreSpared gone has ms → ((p : AbsolutePath) → SparesDeclared gone has (lookup d.declared p)) → (p : AbsolutePath) → SparesDeclared gone has (lookup (after_all ms d).declared p)
  sources_after [] d h old p = old p
  sources_after (m ∷ ms) d h old p = sources_after ms (after m d) h.1 (by_mention m h.0) p
    where
      by_same : (as' : Declared) (q : AbsolutePath) (b : Bool) → SparesDeclared gone has (Some as') → SparesDeclared gone has (if b then Some as' else lookup d.declared q)
      by_same as' q true k = k
      by_same as' q false k = old q

      outside : (b : Bool) (path : AbsolutePath) (type : ExternalType) (q : AbsolutePath) → SparesDeclared gone has (lookup (with_external b path type d).declared q)
      outside true path type q = old q
      outside false path type q = old q

      by_mention : (m : Mention) → SparesAll gone has m → (q : AbsolutePath) → SparesDeclared gone has (lookup (after m d).declared q)
      by_mention (Used' asked at name scope) k q = old q
      by_mention (Sought at name scope) k q = old q
      by_mention (Called asked at name args scope) k q = old q
      by_mention (Declares at name as' scope) k q = by_same as' q (is_same_path (declared_path name scope) q) k.1
      by_mention (Outside here at name type scope) k q = outside (in_root (declared_path name scope)) (declared_path name scope) type q
      by_mention (Opens here at name scope inner) k q = old q

-- the calls are the same
module _ (gone has has' : AbsolutePath → Bool) (left : (p : AbsolutePath) → has' p ≡ (if gone p then false else has p)) where
  calls_same : {ms others : List Mention} → Drops gone ms others → AreSpared gone has ms → calls_in has' others ≡ calls_in has ms
  calls_same NoMentions h = refl
  calls_same (Dropped at name as' scope e rest) h = calls_same rest h.1
  calls_same (Stayed {other = other} {ms = ms} twin stays rest) h = ap (λ cs. call_in has' other ++ cs) (calls_same rest h.1) ∙ ap (λ cs. cs ++ calls_in has ms) (by_twin twin h.0)
    where
      by_twin : {m other : Mention} → Twin m other → SparesAll gone has m → call_in has' other ≡ call_in has m
      by_twin (TwinUse asked at to name scope) k = refl
      by_twin (TwinRegion field other at to name scope) k = refl
      by_twin (TwinSought at to name scope) k = refl
      by_twin (TwinCalled asked at to name args scope) k = ap (λ o. (o, args) ∷ []) (same_denoted gone has has' left name scope k)
      by_twin (TwinDeclares at to name as' scope) k = refl
      by_twin (TwinOutside here there at to name type scope) k = refl
      by_twin (TwinOpens here there at to name scope inner) k = refl

module _ (gone : AbsolutePath → Bool) (w w' : Whole) (lessened : Lessened gone w w') where
  all_errors_left : {ms others : List Mention} → Drops gone ms others → (d d' : Declarations) → Less gone d d' → AreSpared gone (is_named w.all) ms → all_errors w ms d ≡ [] → all_errors w' others d' ≡ []
  all_errors_left NoMentions d d' less spared h = refl
  all_errors_left (Dropped at name as' scope {ms = ms} e rest) d d' less spared h =
      all_errors_left rest (with_declared (declared_path name scope) as' d) d' (less_dropped gone (declared_path name scope) as' d d' e less) spared.1 (right_none (declared_errors w at name scope d) _ h)
  all_errors_left (Stayed {m = m} {other = other} {ms = ms} twin stays rest) d d' less spared h =
      none_both (errors_moved gone w w' lessened twin d d' less stays spared.0 (left_none (mention_errors w m d) _ h))
      (all_errors_left rest (after m d) (after other d') (less_twin gone twin stays d d' less) spared.1 (right_none (mention_errors w m d) _ h))

  all_types_left : {ms others : List Mention} → Drops gone ms others → AreSpared gone (is_named w.all) ms → all_types w ms ≡ [] → all_types w' others ≡ []
  all_types_left NoMentions spared h = refl
  all_types_left (Dropped at name as' scope e rest) spared h = all_types_left rest spared.1 h
  all_types_left (Stayed {m = m} twin stays rest) spared h =
      none_both (types_moved gone w w' lessened twin spared.0 (left_none (mention_types w m) _ h)) (all_types_left rest spared.1 (right_none (mention_types w m) _ h))

abbrev none_declared : Option Declared
none_declared = None

pub same_start : (gone : AbsolutePath → Bool) → Less gone nothing_declared nothing_declared
same_start gone = record { declared = λ p. by_gone (gone p); external = refl }
  where
    by_gone : (b : Bool) → none_declared ≡ (if b then None else none_declared)
    by_gone true = refl
    by_gone false = refl

-- no declared path is one of the root's
pub root_free : (gone : AbsolutePath → Bool) (ms : List Mention) → AreDeclared gone ms → all_errors (seen ms) ms nothing_declared ≡ [] → (p : AbsolutePath) → gone p ≡ true → in_root p ≡ false
root_free gone ms declared h p g = in_none (in_root p) refl
  where
    in_none : (b : Bool) → in_root p ≡ b → b ≡ false
    in_none false e = refl
    in_none true e = absurd (let x = sym (own_after (seen ms) ms nothing_declared p h e refl) ∙ declared p g in grind arith)

pub lessened : (gone : AbsolutePath → Bool) (ms others : List Mention) → Drops gone ms others → AreDeclared gone ms → all_errors (seen ms) ms nothing_declared ≡ [] → AreSpared gone (is_named (seen ms).all) ms → Lessened gone (seen ms) (seen others)
lessened gone ms others drops declared h spared = record {
  all = less;
  calls = ap called (calls_same gone (is_named (seen ms).all) (is_named (seen others).all) (λ p. named_less gone (seen ms).all (seen others).all less p (outside p)) drops spared);
  known = refl;
  left = refl;
  outside = outside;
  sources = sources_after gone (is_named (seen ms).all) ms nothing_declared spared (λ p. tt);
}
  where
    less : Less gone (seen ms).all (seen others).all
    less = less_after gone drops nothing_declared nothing_declared (same_start gone)

    outside : (p : AbsolutePath) → gone p ≡ true → (is_some (lookup (seen ms).all.external p) ≡ false) × (in_root p ≡ false)
    outside p g = (outside_after (seen ms) ms nothing_declared p h (declared p g) refl, root_free gone ms declared h p g)

pub no_errors : (gone : AbsolutePath → Bool) (ms others : List Mention) → Drops gone ms others → AreDeclared gone ms → all_errors (seen ms) ms nothing_declared ≡ [] → AreSpared gone (is_named (seen ms).all) ms → all_errors (seen others) others nothing_declared ≡ []
no_errors gone ms others drops declared h spared =
    all_errors_left gone (seen ms) (seen others) (lessened gone ms others drops declared h spared) drops nothing_declared nothing_declared (same_start gone) spared h

pub no_types : (gone : AbsolutePath → Bool) (ms others : List Mention) → Drops gone ms others → AreDeclared gone ms → all_errors (seen ms) ms nothing_declared ≡ [] → all_types (seen ms) ms ≡ [] → AreSpared gone (is_named (seen ms).all) ms → all_types (seen others) others ≡ []
no_types gone ms others drops declared h k spared = all_types_left gone (seen ms) (seen others) (lessened gone ms others drops declared h spared) drops spared k
