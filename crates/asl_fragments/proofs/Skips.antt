-- Bytes that need no look by themselves.
use Rattle.std.proofs.Common.{◌≡◌, ℕ, suc, ◌+◌, ◌<◌, Bool, true, false, cond, List, [], ◌∷◌, ◌++◌, length, take, drop, refl, sym, ap, subst, ◌∙◌, arith}
use Rattle.std.specs.Prelude.{◌==◌, ◌&&◌, ◌||◌, not, if◌then◌else◌}
use Rattle.std.specs.List.{prefix_len}
use Rattle.std.specs.Char.{is_ascii_digit}
use Rattle.asl_fragments.specs.declared.fragment.Fragment.{Fragment}
use Rattle.asl_fragments.specs.declared.fragment.FragmentKind.TheVariants.{Identifier, Number, Quoted, Other}
use Rattle.asl_fragments.specs.Bytes.{begins_identifier, in_identifier}
use Rattle.asl_fragments.specs.Fragments.{quoted_length, made, fragment_of_slash, fragment_of, first_fragment, piece_of, fragments, open_behind, identifiers, identifier_by, stands_alone, is_plain}
use Rattle.asl_fragments.proofs.FragmentLaws.{fragments_step, no_fragments}
use Rattle.asl_fragments.proofs.Joined.{first_forward}

-- the fragments of a text that is not empty
stepped : (b : ℕ) (bs : List ℕ) → fragments false (b ∷ bs) ≡ piece_of (fragment_of b bs) (b ∷ bs) ∷ fragments false (drop (fragment_of b bs).length (b ∷ bs))
stepped b bs = fragments_step false (b ∷ bs) (omega arith) (first_forward false (b ∷ bs) (omega arith))

drop_word : (n b : ℕ) (bs : List ℕ) → drop (1 + n) (b ∷ bs) ≡ drop n bs
drop_word n b bs = ap (λ k. drop k (b ∷ bs)) (let e : 1 + n ≡ suc n = omega arith in e)

-- ---- comments

-- a word's first byte, or a byte alone, leaves nothing open
word_open : (b : ℕ) (bs : List ℕ) (x : Bool) (i d q s : Bool) → begins_identifier b ≡ i → is_ascii_digit b ≡ d → (b == 34) ≡ q → (b == 47) ≡ s → (i || d) ≡ true
    → open_behind x (fragments false (b ∷ bs)) ≡ open_behind false (fragments false (drop (prefix_len in_identifier bs) bs))
unfolding fragment_of
word_open b bs x true d q s ei ed eq es h =
    ap (open_behind x) (stepped b bs)
    ∙ ap (λ t. (λ (f : Fragment). open_behind f.left_open (fragments false (drop f.length (b ∷ bs)))) (if t then made Identifier (1 + prefix_len in_identifier bs) false else (if is_ascii_digit b then made Number (1 + prefix_len in_identifier bs) false else (if b == 34 then made Quoted (1 + quoted_length false bs) false else (if b == 47 then fragment_of_slash bs else made Other 1 false))))) ei
    ∙ ap (λ r. open_behind false (fragments false r)) (drop_word (prefix_len in_identifier bs) b bs)
word_open b bs x false true q s ei ed eq es h =
    ap (open_behind x) (stepped b bs)
    ∙ ap (λ t. (λ (f : Fragment). open_behind f.left_open (fragments false (drop f.length (b ∷ bs)))) (if t then made Identifier (1 + prefix_len in_identifier bs) false else (if is_ascii_digit b then made Number (1 + prefix_len in_identifier bs) false else (if b == 34 then made Quoted (1 + quoted_length false bs) false else (if b == 47 then fragment_of_slash bs else made Other 1 false))))) ei
    ∙ ap (λ t. (λ (f : Fragment). open_behind f.left_open (fragments false (drop f.length (b ∷ bs)))) (if t then made Number (1 + prefix_len in_identifier bs) false else (if b == 34 then made Quoted (1 + quoted_length false bs) false else (if b == 47 then fragment_of_slash bs else made Other 1 false)))) ed
    ∙ ap (λ r. open_behind false (fragments false r)) (drop_word (prefix_len in_identifier bs) b bs)
word_open b bs x false false q s ei ed eq es h = absurd cc

-- what is behind the rest of a word
rest_open : (bs : List ℕ) → open_behind false (fragments false (drop (prefix_len in_identifier bs) bs)) ≡ open_behind false (fragments false bs)
rest_open [] = refl
rest_open (c ∷ cs) = by (in_identifier c) refl
  where
    by : (t : Bool) → in_identifier c ≡ t → open_behind false (fragments false (drop (cond t (1 + prefix_len in_identifier cs) 0) (c ∷ cs))) ≡ open_behind false (fragments false (c ∷ cs))
    by true e =
        ap (λ r. open_behind false (fragments false r)) (drop_word (prefix_len in_identifier cs) c cs)
        ∙ sym (word_open c cs false (begins_identifier c) (is_ascii_digit c) (c == 34) (c == 47) refl refl refl refl e)
    by false e = refl

-- any other byte alone
other_is : (b : ℕ) (bs : List ℕ) → begins_identifier b ≡ false → is_ascii_digit b ≡ false → (b == 34) ≡ false → (b == 47) ≡ false → fragment_of b bs ≡ made Other 1 false
unfolding fragment_of
other_is b bs ei ed eq es =
    ap (λ t. if t then made Identifier (1 + prefix_len in_identifier bs) false else (if is_ascii_digit b then made Number (1 + prefix_len in_identifier bs) false else (if b == 34 then made Quoted (1 + quoted_length false bs) false else (if b == 47 then fragment_of_slash bs else made Other 1 false)))) ei
    ∙ ap (λ t. if t then made Number (1 + prefix_len in_identifier bs) false else (if b == 34 then made Quoted (1 + quoted_length false bs) false else (if b == 47 then fragment_of_slash bs else made Other 1 false))) ed
    ∙ ap (λ t. if t then made Quoted (1 + quoted_length false bs) false else (if b == 47 then fragment_of_slash bs else made Other 1 false)) eq
    ∙ ap (λ t. if t then fragment_of_slash bs else made Other 1 false) es

other_first : (b : ℕ) (bs : List ℕ) → begins_identifier b ≡ false → is_ascii_digit b ≡ false → (b == 34) ≡ false → (b == 47) ≡ false
    → fragments false (b ∷ bs) ≡ record { kind = Other; text = b ∷ []; left_open = false } ∷ fragments false bs
other_first b bs ei ed eq es = stepped b bs ∙ ap (λ f. piece_of f (b ∷ bs) ∷ fragments false (drop f.length (b ∷ bs))) (other_is b bs ei ed eq es)

plain_open : (b : ℕ) (bs : List ℕ) (x : Bool) (i d q s : Bool) → begins_identifier b ≡ i → is_ascii_digit b ≡ d → (b == 34) ≡ q → (b == 47) ≡ s → (not q && not s) ≡ true
    → open_behind x (fragments false (b ∷ bs)) ≡ open_behind false (fragments false bs)
plain_open b bs x true d q s ei ed eq es h = word_open b bs x true d q s ei ed eq es refl ∙ rest_open bs
plain_open b bs x false true q s ei ed eq es h = word_open b bs x false true q s ei ed eq es refl ∙ rest_open bs
plain_open b bs x false false false false ei ed eq es h = ap (open_behind x) (other_first b bs ei ed eq es)
plain_open b bs x false false false true ei ed eq es h = absurd cc
plain_open b bs x false false true s ei ed eq es h = absurd cc

-- plain bytes leave nothing open
plain_closed : (text : List ℕ) → open_behind false (fragments false text) ≡ open_behind false (fragments false (drop (prefix_len is_plain text) text))
plain_closed [] = refl
plain_closed (b ∷ bs) = by (is_plain b) refl (plain_closed bs)
  where
    by : (t : Bool) → is_plain b ≡ t → open_behind false (fragments false bs) ≡ open_behind false (fragments false (drop (prefix_len is_plain bs) bs))
        → open_behind false (fragments false (b ∷ bs)) ≡ open_behind false (fragments false (drop (cond t (1 + prefix_len is_plain bs) 0) (b ∷ bs)))
    by true e below =
        plain_open b bs false (begins_identifier b) (is_ascii_digit b) (b == 34) (b == 47) refl refl refl refl e ∙ below
        ∙ ap (λ r. open_behind false (fragments false r)) (sym (drop_word (prefix_len is_plain bs) b bs))
    by false e below = refl

-- where there are some
pub plain_run : (x : Bool) (n : ℕ) (text : List ℕ) → n ≡ prefix_len is_plain text → 0 < n → open_behind x (fragments false text) ≡ open_behind false (fragments false (drop n text))
plain_run x n [] e some = absurd (omega (arith, e))
plain_run x n (b ∷ bs) e some = by (is_plain b) refl e
  where
    by : (t : Bool) → is_plain b ≡ t → n ≡ cond t (1 + prefix_len is_plain bs) 0 → open_behind x (fragments false (b ∷ bs)) ≡ open_behind false (fragments false (drop n (b ∷ bs)))
    by true p size =
        plain_open b bs x (begins_identifier b) (is_ascii_digit b) (b == 34) (b == 47) refl refl refl refl p ∙ plain_closed bs
        ∙ ap (λ r. open_behind false (fragments false r)) (sym (drop_word (prefix_len is_plain bs) b bs)) ∙ ap (λ k. open_behind false (fragments false (drop k (b ∷ bs)))) (sym size)
    by false p size = absurd (omega (arith, size, some))

-- ---- identifiers

alone_first : (b : ℕ) (bs : List ℕ) (i d q s : Bool) → begins_identifier b ≡ i → is_ascii_digit b ≡ d → (b == 34) ≡ q → (b == 47) ≡ s → (not (i || d) && not q && not s) ≡ true
    → identifiers (fragments false (b ∷ bs)) ≡ identifiers (fragments false bs)
alone_first b bs true d q s ei ed eq es h = absurd cc
alone_first b bs false true q s ei ed eq es h = absurd cc
alone_first b bs false false true s ei ed eq es h = absurd cc
alone_first b bs false false false true ei ed eq es h = absurd cc
alone_first b bs false false false false ei ed eq es h = ap identifiers (other_first b bs ei ed eq es)

-- bytes that stand alone are none
pub alone_run : (text : List ℕ) → identifiers (fragments false (drop (prefix_len stands_alone text) text)) ≡ identifiers (fragments false text)
alone_run [] = refl
alone_run (b ∷ bs) = by (stands_alone b) refl (alone_run bs)
  where
    by : (t : Bool) → stands_alone b ≡ t → identifiers (fragments false (drop (prefix_len stands_alone bs) bs)) ≡ identifiers (fragments false bs)
        → identifiers (fragments false (drop (cond t (1 + prefix_len stands_alone bs) 0) (b ∷ bs))) ≡ identifiers (fragments false (b ∷ bs))
    by true e below =
        ap (λ r. identifiers (fragments false r)) (drop_word (prefix_len stands_alone bs) b bs) ∙ below
        ∙ sym (alone_first b bs (begins_identifier b) (is_ascii_digit b) (b == 34) (b == 47) refl refl refl refl e)
    by false e below = refl

-- the first fragment and those behind it
pub identifiers_step : (inside : Bool) (text front rest : List ℕ) (f : Fragment) → f ≡ first_fragment inside text → 0 < length text → 0 < f.length → front ≡ take f.length text → rest ≡ drop f.length text
    → identifiers (fragments inside text) ≡ identifier_by f.kind front ++ identifiers (fragments false rest)
identifiers_step inside text front rest f is h forward e1 e2 =
    let first : 0 < (first_fragment inside text).length = subst (λ g. 0 < g.length) is forward in
    ap identifiers (fragments_step inside text h first)
    ∙ ap (λ g. identifier_by g.kind (take g.length text) ++ identifiers (fragments false (drop g.length text))) (sym is)
    ∙ ap (λ t. identifier_by f.kind t ++ identifiers (fragments false (drop f.length text))) (sym e1)
    ∙ ap (λ r. identifier_by f.kind front ++ identifiers (fragments false r)) (sym e2)

pub no_identifiers : (inside : Bool) (text : List ℕ) → length text ≡ 0 → identifiers (fragments inside text) ≡ []
no_identifiers inside text h = ap identifiers (no_fragments inside text h)
