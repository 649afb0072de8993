-- What is known of a program, and what is wrong with its names, whatever the numbers and the places of its nodes are.
use Rattle.std.proofs.Common.{◌≡◌, Bool, true, false, List, [], ◌∷◌, ◌++◌, Option, Some, None, refl, sym, ap, ◌∙◌, subst}
use Rattle.acpi_values.specs.Paths.{AbsolutePath}
use Rattle.asl_tree.specs.Tree.{Trees}
use Rattle.asl_meaning.specs.Declarations.{Declared, As, AliasOf, Declarations, nothing_declared, is_named, called}
use Rattle.asl_tree.specs.Names.{declared_path, denoted}
use Rattle.acpi_names.specs.Errors.{whole_of, name_errors, type_errors, ARegion}
use Rattle.acpi_names.specs.Mentions.{Mention, Used', Sought, Called, Declares, Outside, Opens, block_mentions, after, after_all, call_in, calls_in, all_errors, all_types}
use Rattle.acpi_names.specs.Terms.{are_terms}
use Rattle.acpi_names.proofs.MentionErrors.{block_errors}
use Rattle.acpi_names.proofs.MentionTypes.{block_types}
use Rattle.name_kinds.specs.Seen.{known_with, seen}
use Rattle.name_kinds.proofs.Seeing.{block_seen}
use Rattle.unused_names.specs.Bare.{nowhere, bare_all}
use Rattle.unused_names.specs.Unused.{Twin, TwinUse, TwinRegion, TwinSought, TwinCalled, TwinDeclares, TwinOutside, TwinOpens, Stays, Drops, NoMentions, Stayed, AreDeclared, is_gone, is_below, SparesSource, SparesAll, AreSpared}
use Rattle.unused_names.proofs.BareMentions.{bare_mention, bare_mentions, block_bare}
use Rattle.unused_names.proofs.BareTerms.{terms_same}
use Rattle.unused_names.proofs.Main.{no_errors, no_types}

-- ---- what is known

after_one : (m : Mention) (d : Declarations) → after (bare_mention m) d ≡ after m d
after_one (Used' asked at name scope) d = refl
after_one (Sought at name scope) d = refl
after_one (Called asked at name args scope) d = refl
after_one (Declares at name as' scope) d = refl
after_one (Outside here at name type scope) d = refl
after_one (Opens here at name scope inner) d = refl

after_bare : (ms : List Mention) (d : Declarations) → after_all (bare_mentions ms) d ≡ after_all ms d
after_bare [] d = refl
after_bare (m ∷ ms) d = ap (after_all (bare_mentions ms)) (after_one m d) ∙ after_bare ms (after m d)

call_bare : (has : AbsolutePath → Bool) (m : Mention) → call_in has (bare_mention m) ≡ call_in has m
call_bare has (Used' asked at name scope) = refl
call_bare has (Sought at name scope) = refl
call_bare has (Called asked at name args scope) = refl
call_bare has (Declares at name as' scope) = refl
call_bare has (Outside here at name type scope) = refl
call_bare has (Opens here at name scope inner) = refl

calls_bare : (has : AbsolutePath → Bool) (ms : List Mention) → calls_in has (bare_mentions ms) ≡ calls_in has ms
calls_bare has [] = refl
calls_bare has (m ∷ ms) = ap (λ cs. cs ++ calls_in has (bare_mentions ms)) (call_bare has m) ∙ ap (λ cs. call_in has m ++ cs) (calls_bare has ms)

seen_bare : (ms : List Mention) → seen (bare_mentions ms) ≡ seen ms
seen_bare ms =
    ap (λ all. known_with all (called (calls_in (is_named all) (bare_mentions ms)))) (after_bare ms nothing_declared)
    ∙ ap (λ calls. known_with (after_all ms nothing_declared) (called calls)) (calls_bare (is_named (after_all ms nothing_declared)) ms)

-- ---- what is wrong: nothing is left out

abbrev never : AbsolutePath → Bool
never path = false

twin_bare : (m : Mention) → Twin m (bare_mention m)
twin_bare (Used' (ARegion field) at name scope) = TwinRegion field nowhere at nowhere name scope
twin_bare (Used' asked at name scope) = TwinUse asked at nowhere name scope
twin_bare (Sought at name scope) = TwinSought at nowhere name scope
twin_bare (Called asked at name args scope) = TwinCalled asked at nowhere name args scope
twin_bare (Declares at name as' scope) = TwinDeclares at nowhere name as' scope
twin_bare (Outside here at name type scope) = TwinOutside here nowhere at nowhere name type scope
twin_bare (Opens here at name scope inner) = TwinOpens here nowhere at nowhere name scope inner

twin_again : (m : Mention) → Twin (bare_mention m) m
twin_again (Used' (ARegion field) at name scope) = TwinRegion nowhere field nowhere at name scope
twin_again (Used' asked at name scope) = TwinUse asked nowhere at name scope
twin_again (Sought at name scope) = TwinSought nowhere at name scope
twin_again (Called asked at name args scope) = TwinCalled asked nowhere at name args scope
twin_again (Declares at name as' scope) = TwinDeclares nowhere at name as' scope
twin_again (Outside here at name type scope) = TwinOutside nowhere here nowhere at name type scope
twin_again (Opens here at name scope inner) = TwinOpens nowhere here nowhere at name scope inner

stays_never : (m : Mention) → Stays never m
stays_never (Used' asked at name scope) = tt
stays_never (Sought at name scope) = tt
stays_never (Called asked at name args scope) = tt
stays_never (Declares at name as' scope) = refl
stays_never (Outside here at name type scope) = refl
stays_never (Opens here at name scope inner) = tt

drops_bare : (ms : List Mention) → Drops never ms (bare_mentions ms)
drops_bare [] = NoMentions
drops_bare (m ∷ ms) = Stayed (twin_bare m) (stays_never m) (drops_bare ms)

drops_again : (ms : List Mention) → Drops never (bare_mentions ms) ms
drops_again [] = NoMentions
drops_again (m ∷ ms) = Stayed (twin_again m) (stays_never (bare_mention m)) (drops_again ms)

none_declared : (ms : List Mention) → AreDeclared never ms
none_declared ms path h = absurd cc

module _ (has : AbsolutePath → Bool) where
  spares : (o : Option AbsolutePath) → is_gone never has o ≡ false
  spares None = refl
  spares (Some path) = refl

  not_below : (path : AbsolutePath) → is_below never has path ≡ false
  not_below [] = refl
  not_below (segment ∷ outer) = refl

  source : (as' : Declared) → SparesSource never has as'
  source (As object) = tt
  source (AliasOf name scope) = spares (denoted has name scope)

  spared_one : (m : Mention) → SparesAll never has m
  spared_one (Used' asked at name scope) = spares (denoted has name scope)
  spared_one (Sought at name scope) = tt
  spared_one (Called asked at name args scope) = spares (denoted has name scope)
  spared_one (Declares at name as' scope) = (not_below (declared_path name scope), source as')
  spared_one (Outside here at name type scope) = tt
  spared_one (Opens here at name scope inner) = spares (denoted has name scope)

  spared : (ms : List Mention) → AreSpared never has ms
  spared [] = tt
  spared (m ∷ ms) = (spared_one m, spared ms)

-- ---- programs that are the same but for the numbers and the places of their nodes

abbrev mentions_of : Trees → List Mention
mentions_of program = block_mentions program [] nothing_declared

same_mentions : (p q : Trees) → bare_all p ≡ bare_all q → bare_mentions (mentions_of p) ≡ bare_mentions (mentions_of q)
same_mentions p q e = sym (block_bare p [] nothing_declared) ∙ ap mentions_of e ∙ block_bare q [] nothing_declared

pub same_terms : (p q : Trees) → are_terms p ≡ true → bare_all p ≡ bare_all q → are_terms q ≡ true
same_terms p q are e = sym (terms_same q) ∙ ap are_terms (sym e) ∙ terms_same p ∙ are

pub same_whole : (p q : Trees) → are_terms p ≡ true → bare_all p ≡ bare_all q → whole_of q ≡ whole_of p
same_whole p q are e =
    sym (block_seen q (same_terms p q are e)) ∙ sym (seen_bare (mentions_of q)) ∙ ap seen (sym (same_mentions p q e)) ∙ seen_bare (mentions_of p) ∙ block_seen p are

errors_seen : (p : Trees) → are_terms p ≡ true → name_errors p ≡ all_errors (seen (mentions_of p)) (mentions_of p) nothing_declared
errors_seen p are = block_errors (whole_of p) p are [] nothing_declared ∙ ap (λ w. all_errors w (mentions_of p) nothing_declared) (sym (block_seen p are))

types_seen : (p : Trees) → are_terms p ≡ true → name_errors p ≡ [] → type_errors p ≡ all_types (seen (mentions_of p)) (mentions_of p)
types_seen p are names = block_types (whole_of p) p are [] nothing_declared names ∙ ap (λ w. all_types w (mentions_of p)) (sym (block_seen p are))

abbrev errors_of : List Mention → Type 0
errors_of ms = all_errors (seen ms) ms nothing_declared ≡ []

to_bare : (ms : List Mention) → errors_of ms → errors_of (bare_mentions ms)
to_bare ms h = no_errors never ms (bare_mentions ms) (drops_bare ms) (none_declared ms) h (spared (is_named (seen ms).all) ms)

from_bare : (ms : List Mention) → errors_of (bare_mentions ms) → errors_of ms
from_bare ms h = no_errors never (bare_mentions ms) ms (drops_again ms) (none_declared (bare_mentions ms)) h (spared (is_named (seen (bare_mentions ms)).all) (bare_mentions ms))

pub same_names : (p q : Trees) → are_terms p ≡ true → bare_all p ≡ bare_all q → name_errors p ≡ [] → name_errors q ≡ []
same_names p q are e names =
    errors_seen q (same_terms p q are e) ∙ from_bare (mentions_of q) (subst errors_of (same_mentions p q e) (to_bare (mentions_of p) (sym (errors_seen p are) ∙ names)))

abbrev types_in : List Mention → Type 0
types_in ms = all_types (seen ms) ms ≡ []

pub same_kinds : (p q : Trees) → are_terms p ≡ true → bare_all p ≡ bare_all q → name_errors p ≡ [] → type_errors p ≡ [] → type_errors q ≡ []
same_kinds p q are e names kinds =
    let ms = mentions_of p in
    let others = mentions_of q in
    let h : errors_of ms = sym (errors_seen p are) ∙ names in
    let k : errors_of (bare_mentions others) = subst errors_of (same_mentions p q e) (to_bare ms h) in
    let first : types_in (bare_mentions ms) = no_types never ms (bare_mentions ms) (drops_bare ms) (none_declared ms) h (sym (types_seen p are names) ∙ kinds) (spared (is_named (seen ms).all) ms) in
    let second : types_in (bare_mentions others) = subst types_in (same_mentions p q e) first in
    types_seen q (same_terms p q are e) (same_names p q are e names)
    ∙ no_types never (bare_mentions others) others (drops_again others) (none_declared (bare_mentions others)) k second (spared (is_named (seen (bare_mentions others)).all) (bare_mentions others))
