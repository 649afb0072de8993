-- Names and their values.
use Rattle.std.proofs.Common.{◌≡◌, ℕ, zero, suc, ◌-◌, ◌<◌, Bool, true, false, cond, List, [], ◌∷◌, ◌++◌, length, take, drop, map, Option, Some, None, Err, refl, sym, ap, subst, ◌∙◌, arith, append_assoc, length-append, append-nil, Bor}
use Rattle.std.proofs.Math.Seq.{take-length}
use Rattle.std.proofs.lemmas.List.{take-append-le, map_push}
use Rattle.std.specs.Prelude.{◌||◌}
use Rattle.std.specs.Option.{option_map_or}
use Rattle.std.specs.List.{list_any}
use Rattle.std.specs.Str.{bytes_eq}
use Rattle.asl_fragments.specs.declared.fragment.Fragment.{Fragment}
use Rattle.asl_fragments.specs.Fragments.{piece_of, first_fragment, fragments}
use Rattle.asl_fragments.proofs.FragmentLaws.{fragments_step, no_fragments}
use Rattle.asl_macros.specs.declared.context.Within.{Within}
use Rattle.asl_macros.specs.declared.context.FragmentContext.{FragmentContext}
use Rattle.asl_macros.specs.declared.names.ReplaceStop.{ReplaceStop}
use Rattle.asl_macros.specs.declared.names.ReplaceStop.TheVariants.{TooLong, Memory}
use Rattle.asl_macros.specs.declared.table.Macros.{Macros}
use Rattle.asl_macros.specs.History.{History}
use Rattle.asl_macros.specs.Table.{Tells, text_at}
use Rattle.asl_macros.specs.Replacement.{replaced, Gives, with_values, value_of, value_or_itself, text_with_values, is_name, context_behind, is_active, Adds}

-- ---- values

pub value_at_end : (levels : ℕ) (within : Within) (text_of : List ℕ → Option (List ℕ)) (active : List (List ℕ)) (name : List ℕ) → levels ≡ 0 → value_of levels within text_of active name ≡ name
unfolding value_of
value_at_end zero within text_of active name e = refl
value_at_end (suc n) within text_of active name e = absurd (omega arith)

pub value_active : (levels : ℕ) (within : Within) (text_of : List ℕ → Option (List ℕ)) (active : List (List ℕ)) (name : List ℕ) → is_active active name ≡ true → value_of levels within text_of active name ≡ name
unfolding value_of
value_active zero within text_of active name e = refl
value_active (suc n) within text_of active name e = ap (λ b. cond b name (option_map_or (λ text. text_with_values within (value_of n within text_of (active ++ name ∷ [])) false text) (text_of name) name)) e

pub value_none : (levels : ℕ) (within : Within) (text_of : List ℕ → Option (List ℕ)) (active : List (List ℕ)) (name : List ℕ) → is_active active name ≡ false → text_of name ≡ None → value_of levels within text_of active name ≡ name
unfolding value_of
value_none zero within text_of active name e t = refl
value_none (suc n) within text_of active name e t =
    ap (λ b. cond b name (option_map_or (λ text. text_with_values within (value_of n within text_of (active ++ name ∷ [])) false text) (text_of name) name)) e
    ∙ ap (λ o. option_map_or (λ text. text_with_values within (value_of n within text_of (active ++ name ∷ [])) false text) o name) t

pub value_some : (levels : ℕ) (within : Within) (text_of : List ℕ → Option (List ℕ)) (active : List (List ℕ)) (name text : List ℕ) → 0 < levels → is_active active name ≡ false → text_of name ≡ Some text
    → value_of levels within text_of active name ≡ text_with_values within (value_of (levels - 1) within text_of (active ++ name ∷ [])) false text
unfolding value_of
value_some zero within text_of active name text h e t = absurd (omega arith)
value_some (suc n) within text_of active name text h e t =
    ap (λ b. cond b name (option_map_or (λ text. text_with_values within (value_of n within text_of (active ++ name ∷ [])) false text) (text_of name) name)) e
    ∙ ap (λ o. option_map_or (λ text. text_with_values within (value_of n within text_of (active ++ name ∷ [])) false text) o name) t
    ∙ ap (λ m. text_with_values within (value_of m within text_of (active ++ name ∷ [])) false text) (omega arith)

pub value_some_pushed : (levels : ℕ) (within : Within) (text_of : List ℕ → Option (List ℕ)) (active pushed : List (Bor (List ℕ))) (name : Bor (List ℕ)) (text : List ℕ) → 0 < levels → is_active (map (λ other. other.now) active) name.now ≡ false → text_of name.now ≡ Some text
    → pushed ≡ active ++ name ∷ [] → value_of levels within text_of (map (λ other. other.now) active) name.now ≡ text_with_values within (value_of (levels - 1) within text_of (map (λ other. other.now) pushed)) false text
value_some_pushed levels within text_of active pushed name text h e t p =
    value_some levels within text_of (map (λ other. other.now) active) name.now text h e t
    ∙ ap (λ a. text_with_values within (value_of (levels - 1) within text_of a) false text) (sym (map_push (λ (other : Bor (List ℕ)). other.now) active name) ∙ ap (map (λ (other : Bor (List ℕ)). other.now)) (sym p))

pub active_map : (active : List (Bor (List ℕ))) (name : List ℕ) → list_any (λ (other : Bor (List ℕ)). bytes_eq other.now name) active ≡ is_active (map (λ other. other.now) active) name
active_map [] name = refl
active_map (x ∷ xs) name = ap (λ b. bytes_eq x.now name || b) (active_map xs name)

-- ---- texts

-- the value of the first fragment, and the rest with values
pub values_step : (within : Within) (value : List ℕ → List ℕ) (context : FragmentContext) (inside : Bool) (text front rest : List ℕ) (f : Fragment) → f ≡ first_fragment inside text → 0 < length text → 0 < f.length
    → front ≡ take f.length text → rest ≡ drop f.length text
    → with_values within value context (fragments inside text) ≡ value_or_itself value (is_name within context f.kind front) front ++ with_values within value (context_behind context f.kind front) (fragments false rest)
values_step within value context inside text front rest f is h forward e1 e2 =
    let first : 0 < (first_fragment inside text).length = subst (λ g. 0 < g.length) is forward in
    ap (with_values within value context) (fragments_step inside text h first)
    ∙ ap (λ g. with_values within value context (piece_of g text ∷ fragments false (drop g.length text))) (sym is)
    ∙ ap (λ t. value_or_itself value (is_name within context f.kind t) t ++ with_values within value (context_behind context f.kind t) (fragments false (drop f.length text))) (sym e1)
    ∙ ap (λ r. value_or_itself value (is_name within context f.kind front) front ++ with_values within value (context_behind context f.kind front) (fragments false r)) (sym e2)

-- what is still to come behind a text, where its first fragment is added next
pub piece_more : (within : Within) (levels : ℕ) (text_of : List ℕ → Option (List ℕ)) (active now : List (Bor (List ℕ))) (context next : FragmentContext) (inside named : Bool) (text front rest out whole : List ℕ) (f : Fragment)
    → f ≡ first_fragment inside text → 0 < length text → 0 < f.length → front ≡ take f.length text → rest ≡ drop f.length text → named ≡ is_name within context f.kind front → next ≡ context_behind context f.kind front → now ≡ active
    → out ++ with_values within (value_of levels within text_of (map (λ other. other.now) active)) context (fragments inside text) ≡ whole
    → out ++ (value_or_itself (value_of levels within text_of (map (λ other. other.now) now)) named front ++ with_values within (value_of levels within text_of (map (λ other. other.now) active)) next (fragments false rest)) ≡ whole
piece_more within levels text_of active now context next inside named text front rest out whole f is h forward e1 e2 e3 e4 e5 e =
    ap (λ a. out ++ (value_or_itself (value_of levels within text_of (map (λ other. other.now) a)) named front ++ with_values within (value_of levels within text_of (map (λ other. other.now) active)) next (fragments false rest))) e5
    ∙ ap (λ b. out ++ (value_or_itself (value_of levels within text_of (map (λ other. other.now) active)) b front ++ with_values within (value_of levels within text_of (map (λ other. other.now) active)) next (fragments false rest))) e3
    ∙ ap (λ s. out ++ (value_or_itself (value_of levels within text_of (map (λ other. other.now) active)) (is_name within context f.kind front) front ++ with_values within (value_of levels within text_of (map (λ other. other.now) active)) s (fragments false rest))) e4
    ∙ ap (λ t. out ++ t) (sym (values_step within (value_of levels within text_of (map (λ other. other.now) active)) context inside text front rest f is h forward e1 e2)) ∙ e

-- ---- what was added

pub added_more : (new out more rest whole : List ℕ) → new ≡ out ++ more → out ++ (more ++ rest) ≡ whole → new ++ rest ≡ whole
added_more new out more rest whole h e = ap (λ n. n ++ rest) h ∙ append_assoc out more rest ∙ e

-- what is too long already is too long with more
pub too_long_more : (stop : ReplaceStop) (limit : ℕ) (out new more rest old new2 whole : List ℕ) → Adds (Err stop) limit out new more → out ++ (more ++ rest) ≡ old ++ whole → Adds (Err stop) limit old new2 whole
too_long_more TooLong limit out new more rest old new2 whole h e =
    let total : length (out ++ (more ++ rest)) ≡ length (old ++ whole) = ap length e in
    omega (arith, h, total, length-append out (more ++ rest), length-append more rest, length-append out more)
too_long_more Memory limit out new more rest old new2 whole h e = tt

pub none_left : (within : Within) (value : List ℕ → List ℕ) (context : FragmentContext) (inside : Bool) (out text whole : List ℕ) → length text ≡ 0 → out ++ with_values within value context (fragments inside text) ≡ whole → out ≡ whole
none_left within value context inside out text whole h e = sym (append-nil out) ∙ ap (λ ps. out ++ with_values within value context ps) (sym (no_fragments inside text h)) ∙ e

-- the names that are being replaced, with one more and without it again
pub one_less : {X : Type 0} (new pushed old : List X) (x : X) (n : ℕ) → n ≡ length old → pushed ≡ old ++ x ∷ [] → new ≡ take n pushed → new ≡ old
one_less new pushed old x n e p t = t ∙ ap (take n) p ∙ ap (λ m. take m (old ++ x ∷ [])) e ∙ take-append-le (length old) old (x ∷ []) (omega arith) ∙ take-length old

-- ---- the whole

-- the texts of the table are those of the history
pub whole_is : (macros : Macros) (history : History) (within : Within) (in_comment : Bool) (text old : List ℕ) (active : List (Bor (List ℕ))) → Tells macros history → old ≡ [] → active ≡ []
    → old ++ text_with_values within (value_of 32 within (text_at macros) (map (λ other. other.now) active)) in_comment text ≡ replaced within history in_comment text
unfolding replaced
whole_is macros history within in_comment text old active tells e1 e2 =
    ap (λ o. o ++ text_with_values within (value_of 32 within (text_at macros) (map (λ other. other.now) active)) in_comment text) e1
    ∙ ap (λ a. text_with_values within (value_of 32 within (text_at macros) (map (λ other. other.now) a)) in_comment text) e2
    ∙ ap (λ t. text_with_values within (value_of 32 within t []) in_comment text) (λ i name. tells.text name i)

pub too_long_whole : (stop : ReplaceStop) (limit : ℕ) (old new more whole : List ℕ) → Adds (Err stop) limit old new more → old ++ more ≡ whole → Gives (Err stop) limit whole
too_long_whole TooLong limit old new more whole h e = subst (λ w. limit < length w) e h
too_long_whole Memory limit old new more whole h e = tt
