-- The plans of terms that are made.
use Rattle.std.proofs.Common.{◌≡◌, ℕ, List, Option, refl}
use Rattle.asl_tree.specs.declared.path.Path.{Path}
use Rattle.acpi_values.specs.Paths.{NameSeg}
use Rattle.asl_tree.specs.declared.term.Word.{Word}
use Rattle.asl_tree.specs.declared.term.NamedDescriptor.{NamedDescriptor}
use Rattle.asl_tree.specs.declared.term.Term as D
use Rattle.term_plans.specs.Plans.{plan_of, an_integer, a_text, a_fill, a_word, a_local, an_arg, debug, omitted, a_name, a_unit, a_skip, an_offset, an_access}

pub omitted_term : plan_of D.Omitted ≡ omitted
unfolding plan_of
omitted_term = refl

pub integer_term : (n : ℕ) → plan_of (D.Integer n) ≡ an_integer n
unfolding plan_of
integer_term n = refl

pub text_term : (bytes : List ℕ) → plan_of (D.Text bytes) ≡ a_text bytes
unfolding plan_of
text_term bytes = refl

pub word_term : (word : Word) → plan_of (D.Word word) ≡ a_word word
unfolding plan_of
word_term word = refl

pub local_term : (n : ℕ) → plan_of (D.Local n) ≡ a_local n
unfolding plan_of
local_term n = refl

pub arg_term : (n : ℕ) → plan_of (D.Arg n) ≡ an_arg n
unfolding plan_of
arg_term n = refl

pub name_term : (path : Path) → plan_of (D.Name path) ≡ a_name path
unfolding plan_of
name_term path = refl

pub fill_term : (bytes : List ℕ) (named : List NamedDescriptor) → plan_of (D.Fill bytes named) ≡ a_fill bytes named
unfolding plan_of
fill_term bytes named = refl

pub debug_term : plan_of D.Debug ≡ debug
unfolding plan_of
debug_term = refl

pub unit_term : (segment : NameSeg) (bits : ℕ) → plan_of (D.Unit segment bits) ≡ a_unit segment bits
unfolding plan_of
unit_term segment bits = refl

pub skip_term : (bits : ℕ) → plan_of (D.Skip bits) ≡ a_skip bits
unfolding plan_of
skip_term bits = refl

pub offset_term : (bytes : ℕ) → plan_of (D.Offset bytes) ≡ an_offset bytes
unfolding plan_of
offset_term bytes = refl

pub access_term : (access attribute : ℕ) (count : Option ℕ) → plan_of (D.Access access attribute count) ≡ an_access access attribute count
unfolding plan_of
access_term access attribute count = refl

pub ruleset term_rules = (omitted_term, integer_term, text_term, word_term, local_term, arg_term, name_term, fill_term, debug_term, unit_term, skip_term, offset_term, access_term)
