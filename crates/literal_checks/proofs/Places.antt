-- The literals that are told stand in the files of their source.
use Rattle.std.proofs.Common.{ℕ, ◌<◌, Bool, true, false, List, [], ◌∷◌, ◌++◌}
use Rattle.std.specs.Prelude.{nat_lt, if◌then◌else◌, All}
use Rattle.iasl_messages.specs.declared.place.Place.{Place}
use Rattle.iasl_messages.specs.declared.message.Message.{Message}
use Rattle.acpi_values.specs.declared.width.Width.{Width}
use Rattle.acpi_values.specs.declared.width.Width.TheVariants.{W32, W64}
use Rattle.asl_syntax.specs.declared.raw.Raw.{Raw}
use Rattle.asl_syntax.specs.Written.{Written, number as a_number, item, apply, Writtens, none, more, WrittenGroup, absent, given, writtens}
use Rattle.asl_syntax.specs.Within.{IsIn, IsWithin, AreWithin, IsGroupWithin}
use Rattle.asl_words.specs.declared.operator.Parameter.{Parameter}
use Rattle.word_meanings.specs.Meanings.{meaning_of}
use Rattle.term_plans.specs.Places.{fault_at}
use Rattle.asl_terms.specs.Terms.{is_given}
use Rattle.term_plans.specs.Places.{AreTold}
use Rattle.asl_shape.proofs.Places.{as_all}
use Rattle.literal_checks.specs.Literals.{told_number, is_first_wide, behind_first, parameters_in, holds_wide, unless, told, told_all, told_group, told_braces, told_block, cut_literals, cut_literals_at}

module _ (files : ℕ) where
  both : (xs ys : List Message) → AreTold files xs → AreTold files ys → AreTold files (xs ++ ys)
  both [] ys h k = k
  both (x ∷ xs) ys h k = (h.0, both xs ys h.1 k)

  unless_in : (wide : Bool) (messages : List Message) → AreTold files messages → AreTold files (unless wide messages)
  unless_in true messages h = tt
  unless_in false messages h = h

  number_in : (place : Place) (n : ℕ) → IsIn files place → AreTold files (told_number place n)
  number_in place n h = by (nat_lt 4294967295 n)
    where
      by : (c : Bool) → AreTold files (if c then fault_at 3002 place ∷ [] else [])
      by true = (h, tt)
      by false = tt

  mutual
    told_in : (w : Written) → IsWithin files w → AreTold files (told w)
    told_in (a_number place n) h = number_in place n h
    told_in (item place w args body) h =
        let meaning = meaning_of w (is_given body) in
        both (told_group (parameters_in meaning) args) (unless (holds_wide meaning) (told_group [] body)) (group_in (parameters_in meaning) args h.1) (unless_in (holds_wide meaning) (told_group [] body) (group_in [] body h.2))
    told_in (apply place op args) h = all_in [] args h.1
    told_in _ h = tt

    all_in : (qs : List Parameter) (ws : Writtens) → AreWithin files ws → AreTold files (told_all qs ws)
    all_in qs none h = tt
    all_in qs (more w ws) h =
        both (unless (is_first_wide qs) (told w)) (told_all (behind_first qs) ws) (unless_in (is_first_wide qs) (told w) (told_in w h.0)) (all_in (behind_first qs) ws h.1)

    group_in : (qs : List Parameter) (group : WrittenGroup) → IsGroupWithin files group → AreTold files (told_group qs group)
    group_in qs absent h = tt
    group_in qs (given ws) h = all_in qs ws h

  braces_in : (w : Written) → IsWithin files w → AreTold files (told_braces w)
  braces_in (item place w args body) h = group_in [] body h.2
  braces_in _ h = tt

  block_in : (ws : Writtens) → AreWithin files ws → AreTold files (told_block ws)
  block_in none h = tt
  block_in (more w ws) h = braces_in w h.0

  cut_in : (width : Width) (ws : Writtens) → AreWithin files ws → AreTold files (cut_literals width ws)
  cut_in W32 ws h = block_in ws h
  cut_in W64 ws h = tt

pub literals_within : (files : ℕ) (width : Width) (raws : List Raw) → AreWithin files (writtens raws) → All (λ m. m.place.file < files) (cut_literals_at width raws)
unfolding cut_literals_at
literals_within files width raws h = as_all files (cut_literals width (writtens raws)) (cut_in files width (writtens raws) h)
