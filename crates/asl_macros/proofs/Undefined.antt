-- Where none of its names is defined, a text stays as it is.
use Rattle.std.proofs.Common.{◌≡◌, ℕ, zero, suc, Bool, true, false, List, [], ◌∷◌, ◌++◌, Option, None, refl, ap, sym, ◌∙◌}
use Rattle.std.specs.Prelude.{if◌then◌else◌}
use Rattle.std.specs.Option.{option_map_or}
use Rattle.std.specs.List.{flat_map}
use Rattle.asl_fragments.specs.declared.fragment.FragmentKind.{FragmentKind}
use Rattle.asl_fragments.specs.declared.fragment.FragmentKind.TheVariants.{Identifier, Number, Quoted, Comment, Other}
use Rattle.asl_fragments.specs.Fragments.{Piece, fragments, identifiers, identifier_by}
use Rattle.asl_fragments.proofs.Joined.{fragments_joined}
use Rattle.asl_macros.specs.declared.context.Within.{Within}
use Rattle.asl_macros.specs.declared.context.FragmentContext.{FragmentContext}
use Rattle.asl_macros.specs.declared.context.FragmentContext.TheVariants.{Anywhere}
use Rattle.asl_macros.specs.History.{History, text_in}
use Rattle.asl_macros.specs.Table.{AreFree}
use Rattle.asl_macros.specs.Replacement.{is_name, is_name_at, context_behind, value_or_itself, with_values, text_with_values, is_active, value_of, nesting, replaced}

value_none : (levels : ℕ) (within : Within) (text_of : List ℕ → Option (List ℕ)) (active : List (List ℕ)) (name : List ℕ) → text_of name ≡ None → value_of levels within text_of active name ≡ name
unfolding value_of
value_none zero within text_of active name none = refl
value_none (suc levels) within text_of active name none = by (is_active active name)
  where
    by : (c : Bool) → (if c then name else option_map_or (λ text. text_with_values within (value_of levels within text_of (active ++ name ∷ [])) false text) (text_of name) name) ≡ name
    by true = refl
    by false = ap (λ o. option_map_or (λ text. text_with_values within (value_of levels within text_of (active ++ name ∷ [])) false text) o name) none

same_value : (value : List ℕ → List ℕ) (named : Bool) (text : List ℕ) → value text ≡ text → value_or_itself value named text ≡ text
same_value value true text e = e
same_value value false text e = refl

-- a fragment that is free, and those behind it
same_piece : (within : Within) (text_of : List ℕ → Option (List ℕ)) (value : List ℕ → List ℕ) → ((name : List ℕ) → text_of name ≡ None → value name ≡ name) → (context : FragmentContext) (kind : FragmentKind) (text : List ℕ) (names : List (List ℕ))
    → AreFree text_of (identifier_by kind text ++ names) → value_or_itself value (is_name within context kind text) text ≡ text
same_piece within text_of value same context Identifier text names free = same_value value (is_name_at within context text) text (same text free.0)
same_piece within text_of value same context Number text names free = refl
same_piece within text_of value same context Quoted text names free = refl
same_piece within text_of value same context Comment text names free = refl
same_piece within text_of value same context Other text names free = refl

others_free : (text_of : List ℕ → Option (List ℕ)) (kind : FragmentKind) (text : List ℕ) (names : List (List ℕ)) → AreFree text_of (identifier_by kind text ++ names) → AreFree text_of names
others_free text_of Identifier text names free = free.1
others_free text_of Number text names free = free
others_free text_of Quoted text names free = free
others_free text_of Comment text names free = free
others_free text_of Other text names free = free

same_pieces : (within : Within) (text_of : List ℕ → Option (List ℕ)) (value : List ℕ → List ℕ) → ((name : List ℕ) → text_of name ≡ None → value name ≡ name) → (context : FragmentContext) (pieces : List Piece) → AreFree text_of (identifiers pieces)
    → with_values within value context pieces ≡ flat_map (λ (p : Piece). p.text) pieces
same_pieces within text_of value same context [] free = refl
same_pieces within text_of value same context (p ∷ ps) free =
    ap (λ us. us ++ with_values within value (context_behind context p.kind p.text) ps) (same_piece within text_of value same context p.kind p.text (identifiers ps) free)
    ∙ ap (λ us. p.text ++ us) (same_pieces within text_of value same (context_behind context p.kind p.text) ps (others_free text_of p.kind p.text (identifiers ps) free))

pub replaced_free : (within : Within) (history : History) (in_comment : Bool) (text : List ℕ) → AreFree (text_in history) (identifiers (fragments in_comment text)) → replaced within history in_comment text ≡ text
unfolding replaced text_with_values
replaced_free within history in_comment text free =
    same_pieces within (text_in history) (value_of nesting within (text_in history) []) (λ name none. value_none nesting within (text_in history) [] name none) Anywhere (fragments in_comment text) free
    ∙ fragments_joined in_comment text

-- what is free in a table is free in what it tells
pub free_by : (texts texts' : List ℕ → Option (List ℕ)) → ((name : List ℕ) → texts name ≡ texts' name) → (names : List (List ℕ)) → AreFree texts names → AreFree texts' names
free_by texts texts' same [] free = free
free_by texts texts' same (name ∷ names) free = (sym (same name) ∙ free.0, free_by texts texts' same names free.1)
