-- The fragments of a text, joined, are the text.
use Rattle.std.proofs.Common.{◌≡◌, ℕ, zero, suc, ◌+◌, ◌<◌, ◌≤◌, Bool, true, false, List, [], ◌∷◌, ◌++◌, length, take, drop, refl, sym, ap, ◌∙◌, arith, length-append}
use Rattle.std.specs.Prelude.{◌==◌, if◌then◌else◌}
use Rattle.std.specs.List.{flat_map, prefix_len}
use Rattle.std.specs.Char.{is_ascii_digit}
use Rattle.std.proofs.lemmas.List.{length-replicate, length-drop, take-append-drop}
use Rattle.asl_fragments.specs.declared.fragment.FragmentKind.{FragmentKind}
use Rattle.asl_fragments.specs.declared.fragment.FragmentKind.TheVariants.{Identifier, Number, Quoted, Comment, Other}
use Rattle.asl_fragments.specs.Bytes.{begins_identifier, in_identifier}
use Rattle.asl_fragments.specs.Fragments.{quoted_length, block_length, block_is_open, made, fragment_of_slash, fragment_of, first_fragment, Piece, fragments, blanked_by, blanked, without_comments}
use Rattle.asl_fragments.proofs.FragmentLaws.{fragments_step, no_fragments}

slash_forward : (bs : List ℕ) → 0 < (fragment_of_slash bs).length
unfolding fragment_of_slash
slash_forward [] = omega arith
slash_forward (b ∷ bs) = slash_by (b == 47) (b == 42) bs
  where
    slash_by : (c d : Bool) (bs : List ℕ) → 0 < (if c then made Comment (2 + length bs) false else (if d then made Comment (2 + block_length false bs) (block_is_open false bs) else made Other 1 false)).length
    slash_by true d bs = omega arith
    slash_by false true bs = omega arith
    slash_by false false bs = omega arith

fragment_forward : (b : ℕ) (bs : List ℕ) → 0 < (fragment_of b bs).length
unfolding fragment_of
fragment_forward b bs = fragment_by (begins_identifier b) (is_ascii_digit b) (b == 34) (b == 47)
  where
    fragment_by : (i d q s : Bool) → 0 < (if i then made Identifier (1 + prefix_len in_identifier bs) false else (if d then made Number (1 + prefix_len in_identifier bs) false else (
        if q then made Quoted (1 + quoted_length false bs) false else (if s then fragment_of_slash bs else made Other 1 false)))).length
    fragment_by true d q s = omega arith
    fragment_by false true q s = omega arith
    fragment_by false false true s = omega arith
    fragment_by false false false true = slash_forward bs
    fragment_by false false false false = omega arith

pub first_forward : (in_comment : Bool) (text : List ℕ) → 0 < length text → 0 < (first_fragment in_comment text).length
first_forward in_comment [] h = absurd (omega arith)
first_forward true (b ∷ bs) h = omega arith
first_forward false (b ∷ bs) h = fragment_forward b bs

joined_by : (room : ℕ) (in_comment : Bool) (text : List ℕ) → length text ≤ room → flat_map (λ (p : Piece). p.text) (fragments in_comment text) ≡ text
joined_by room in_comment [] h = ap (flat_map (λ (p : Piece). p.text)) (no_fragments in_comment [] refl)
joined_by zero in_comment (b ∷ bs) h = absurd (omega arith)
joined_by (suc room) in_comment (b ∷ bs) h =
    let forward = first_forward in_comment (b ∷ bs) (omega arith) in
    let n = (first_fragment in_comment (b ∷ bs)).length in
    let less : length (drop n (b ∷ bs)) ≤ room = omega (arith, length-drop n (b ∷ bs)) in
    ap (flat_map (λ (p : Piece). p.text)) (fragments_step in_comment (b ∷ bs) (omega arith) forward)
    ∙ ap (λ t. take n (b ∷ bs) ++ t) (joined_by room false (drop n (b ∷ bs)) less) ∙ take-append-drop n (b ∷ bs)

-- joined they are the text
pub fragments_joined : (in_comment : Bool) (text : List ℕ) → flat_map (λ (p : Piece). p.text) (fragments in_comment text) ≡ text
fragments_joined in_comment text = joined_by (length text) in_comment text (omega arith)

length-blanked_by : (kind : FragmentKind) (text : List ℕ) → length (blanked_by kind text) ≡ length text
length-blanked_by Comment text = length-replicate (length text) 32
length-blanked_by _ text = refl

length-blanked : (ps : List Piece) → length (flat_map blanked ps) ≡ length (flat_map (λ (p : Piece). p.text) ps)
length-blanked [] = refl
length-blanked (p ∷ ps) = length-append (blanked_by p.kind p.text) (flat_map blanked ps) ∙ ap (λ n. n + length (flat_map blanked ps)) (length-blanked_by p.kind p.text) ∙ ap (λ n. length p.text + n) (length-blanked ps)
    ∙ sym (length-append p.text (flat_map (λ (p : Piece). p.text) ps))

-- blanks for comments keep the length
pub length-without_comments : (in_comment : Bool) (text : List ℕ) → length (without_comments in_comment text) ≡ length text
unfolding without_comments
length-without_comments in_comment text = length-blanked (fragments in_comment text) ∙ ap length (fragments_joined in_comment text)
