-- Lines in which `__IASL__` does not stand, where no other name is defined.
use Rattle.std.proofs.Common.{◌≡◌, ℕ, ◌+◌, Bool, true, false, List, [], ◌∷◌, take, drop, slice_index, Option, None, refl, sym, ap, subst, ◌∙◌, arith}
use Rattle.std.specs.List.{All}
use Rattle.std.specs.Str.{bytes_eq}
use Rattle.std.specs.Cmp.Lexicographic.{bytes_decides}
use Rattle.std.proofs.lemmas.List.{length-drop, length-take, get_or-drop, get_or-take}
use Rattle.memchr.specs.Find.{OccursAt, FindsNeedle}
use Rattle.asl_fragments.specs.declared.fragment.FragmentKind.{FragmentKind}
use Rattle.asl_fragments.specs.declared.fragment.FragmentKind.TheVariants.{Identifier, Number, Quoted, Comment, Other}
use Rattle.asl_fragments.specs.Fragments.{first_fragment, identifier_by}
use Rattle.asl_macros.specs.declared.context.Within.TheVariants.{InLine}
use Rattle.asl_macros.specs.History.{History, text_in}
use Rattle.asl_macros.specs.Table.{AreFree}
use Rattle.asl_macros.specs.Clear.{IsClear}
use Rattle.asl_macros.specs.Replacement.{replaced}
use Rattle.asl_macros.proofs.Clear.{clear_free}
use Rattle.asl_macros.proofs.Undefined.{replaced_free}
use Rattle.asl_preprocess.specs.Rows.{file_lines}
use Rattle.asl_preprocess.specs.OwnName.{own_name, LacksOwnName, IsAlone}
use Rattle.asl_preprocess.proofs.Everywhere.{lines_all}

-- ---- parts of a text

in_front : (n k : ℕ) (text : List ℕ) → OccursAt (take n text) own_name k → OccursAt text own_name k
in_front n k text h = record {
  fits = omega (arith, h.fits, length-take n text);
  reads = λ j lt. sym (get_or-take n text (k + j) 0 (omega (arith, h.fits, length-take n text, lt))) ∙ h.reads j lt;
}

in_behind : (n k : ℕ) (text : List ℕ) → OccursAt (drop n text) own_name k → OccursAt text own_name (n + k)
in_behind n k text h = record {
  fits = omega (arith, h.fits, length-drop n text);
  reads = λ j lt. let e : n + k + j ≡ n + (k + j) = omega arith in ap (λ m. slice_index text m) e ∙ sym (get_or-drop n text (k + j) 0) ∙ h.reads j lt;
}

lacks_front : (n : ℕ) (text : List ℕ) → LacksOwnName text → LacksOwnName (take n text)
lacks_front n text h = record { nowhere = λ k at. h.nowhere k (in_front n k text at) }

lacks_behind : (n : ℕ) (text : List ℕ) → LacksOwnName text → LacksOwnName (drop n text)
lacks_behind n text h = record { nowhere = λ k at. h.nowhere (n + k) (in_behind n k text at) }

pub not_found : (bytes : List ℕ) → FindsNeedle bytes own_name 0 None → All LacksOwnName (file_lines bytes)
not_found bytes none = lines_all LacksOwnName lacks_front lacks_behind bytes (record { nowhere = λ k at. none k (omega arith) (omega (arith, at.fits)) at })

-- ---- names

whole_is : (n : ℕ) (text : List ℕ) → take n text ≡ own_name → OccursAt text own_name 0
whole_is n text e = in_front n 0 text (subst (λ t. OccursAt t own_name 0) (sym e) (record { fits = omega arith; reads = λ j lt. let e : 0 + j ≡ j = omega arith in ap (λ m. slice_index own_name m) e }))

no_text : (history : History) → IsAlone history → (n : ℕ) (text : List ℕ) → LacksOwnName text → text_in history (take n text) ≡ None
no_text history alone n text lacks = by (bytes_eq own_name (take n text)) refl
  where
    by : (t : Bool) → bytes_eq own_name (take n text) ≡ t → text_in history (take n text) ≡ None
    by true e = absurd (lacks.nowhere 0 (whole_is n text (sym ((bytes_decides own_name (take n text)).0 e))))
    by false e = alone.others (take n text) e

free_kind : (text_of : List ℕ → Option (List ℕ)) (kind : FragmentKind) (text : List ℕ) → text_of text ≡ None → AreFree text_of (identifier_by kind text)
free_kind text_of Identifier text none = (none, tt)
free_kind text_of Number text none = tt
free_kind text_of Quoted text none = tt
free_kind text_of Comment text none = tt
free_kind text_of Other text none = tt

clear : (history : History) → IsAlone history → (before : ℕ) (text : List ℕ) → LacksOwnName text → IsClear (text_in history) before text
clear history alone before [] lacks = tt
clear history alone before (b ∷ bs) lacks = (
  λ e. let n : ℕ = (first_fragment false (b ∷ bs)).length in free_kind (text_in history) (first_fragment false (b ∷ bs)).kind (take n (b ∷ bs)) (no_text history alone n (b ∷ bs) lacks),
  clear history alone b bs (lacks_behind 1 (b ∷ bs) lacks),
)

pub stays_without : (history : History) (in_comment : Bool) (text : List ℕ) → IsAlone history → LacksOwnName text → replaced InLine history in_comment text ≡ text
stays_without history in_comment text alone lacks = replaced_free InLine history in_comment text (clear_free (text_in history) in_comment text (clear history alone 32 text lacks))
