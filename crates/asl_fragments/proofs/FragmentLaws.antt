-- Fragments one behind another.
use Rattle.std.proofs.Common.{◌≡◌, ℕ, zero, suc, ◌-◌, ◌<◌, Bool, false, List, [], ◌∷◌, ◌++◌, length, take, drop, refl, sym, ap, subst, ◌∙◌, arith, append_assoc, append-nil}
use Rattle.std.specs.List.{flat_map}
use Rattle.asl_fragments.specs.declared.fragment.Fragment.{Fragment}
use Rattle.asl_fragments.specs.Fragments.{piece_of, first_fragment, fragments_behind, fragments, open_behind, blanked_by, blanked}

-- behind some bytes stand the fragments of what is left
pub behind_is : (n : ℕ) (text : List ℕ) → fragments_behind n text ≡ fragments false (drop n text)
unfolding fragments_behind fragments
behind_is zero [] = refl
behind_is (suc n) [] = refl
behind_is zero (b ∷ bs) = refl
behind_is (suc n) (b ∷ bs) = behind_is n bs

drop_of : (n : ℕ) (b : ℕ) (bs : List ℕ) → 0 < n → drop (n - 1) bs ≡ drop n (b ∷ bs)
drop_of zero b bs h = absurd (omega arith)
drop_of (suc n) b bs h = ap (λ m. drop m bs) (omega arith)

-- the first fragment, and those of what stands behind it
pub fragments_step : (in_comment : Bool) (text : List ℕ) → 0 < length text → 0 < (first_fragment in_comment text).length
    → fragments in_comment text ≡ piece_of (first_fragment in_comment text) text ∷ fragments false (drop (first_fragment in_comment text).length text)
unfolding fragments
fragments_step in_comment [] h f = absurd (omega arith)
fragments_step in_comment (b ∷ bs) h f =
    ap (λ ps. piece_of (first_fragment in_comment (b ∷ bs)) (b ∷ bs) ∷ ps)
    (behind_is ((first_fragment in_comment (b ∷ bs)).length - 1) bs ∙ ap (fragments false) (drop_of (first_fragment in_comment (b ∷ bs)).length b bs f))

pub no_fragments : (in_comment : Bool) (text : List ℕ) → length text ≡ 0 → fragments in_comment text ≡ []
unfolding fragments
no_fragments in_comment [] h = refl
no_fragments in_comment (b ∷ bs) h = absurd (omega arith)

-- whether a comment is open at the end does not change where the first fragment is passed
pub open_step : (inside before : Bool) (text rest : List ℕ) (f : Fragment) → f ≡ first_fragment inside text → 0 < length text → 0 < f.length → rest ≡ drop f.length text
    → open_behind before (fragments inside text) ≡ open_behind f.left_open (fragments false rest)
open_step inside before text rest f is h forward e =
    let first : 0 < (first_fragment inside text).length = subst (λ g. 0 < g.length) is forward in
    ap (open_behind before) (fragments_step inside text h first) ∙ ap (λ g. open_behind g.left_open (fragments false (drop g.length text))) (sym is) ∙ ap (λ r. open_behind f.left_open (fragments false r)) (sym e)

-- nor does what stands in place of the comments
pub blanked_step : (inside : Bool) (out more text front rest : List ℕ) (f : Fragment) → f ≡ first_fragment inside text → 0 < length text → 0 < f.length → front ≡ take f.length text → rest ≡ drop f.length text
    → more ≡ out ++ blanked_by f.kind front → more ++ flat_map blanked (fragments false rest) ≡ out ++ flat_map blanked (fragments inside text)
blanked_step inside out more text front rest f is h forward e1 e2 added =
    let first : 0 < (first_fragment inside text).length = subst (λ g. 0 < g.length) is forward in
    ap (λ m. m ++ flat_map blanked (fragments false rest)) added ∙ append_assoc out (blanked_by f.kind front) (flat_map blanked (fragments false rest))
    ∙ ap (λ t. out ++ (blanked_by f.kind t ++ flat_map blanked (fragments false rest))) e1 ∙ ap (λ r. out ++ (blanked_by f.kind (take f.length text) ++ flat_map blanked (fragments false r))) e2
    ∙ ap (λ g. out ++ (blanked_by g.kind (take g.length text) ++ flat_map blanked (fragments false (drop g.length text)))) is
    ∙ ap (λ ps. out ++ flat_map blanked ps) (sym (fragments_step inside text h first))

-- and where nothing is left, all is there
pub blanked_end : (inside : Bool) (out text whole : List ℕ) → length text ≡ 0 → out ++ flat_map blanked (fragments inside text) ≡ whole → out ≡ whole
blanked_end inside out text whole h e = sym (append-nil out) ∙ ap (λ ps. out ++ flat_map blanked ps) (sym (no_fragments inside text h)) ∙ e
