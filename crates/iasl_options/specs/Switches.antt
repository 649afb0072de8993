-- Options without value that may stand together with every other.
use Rattle.std.specs.Prelude.{ℕ, ◌&&◌, ◌||◌, Bool, true, false, not, cond, List, codes, Some, None}
use Rattle.std.specs.declared.option.Option.{Option}
use Rattle.std.specs.Str.{bytes_eq}
use Rattle.iasl_options.specs.declared.switches.Switch.{Switch}
use Rattle.iasl_options.specs.declared.switches.Switch.TheVariants as switch
use Rattle.iasl_options.specs.declared.switches.Switches.{Switches}

-- how a switch is written
abbrev pub switch_word : Switch → List ℕ
switch_word switch.Brief = codes "-vi"
switch_word switch.Strict = codes "-we"
switch_word switch.CText = codes "-tc"
switch_word switch.Listing = codes "-l"
switch_word switch.Generic = codes "-G"
switch_word switch.LongIntegers = codes "-oi"
switch_word switch.WrittenNames = codes "-on"
switch_word switch.Unfolded = codes "-of"
switch_word switch.Unoptimised = codes "-oa"
switch_word switch.WrappedExternals = codes "--wrap-externals"
switch_word switch.Acpica = codes "--acpica"
switch_word switch.NoSignon = codes "-vs"
switch_word switch.FirstLevel = codes "-w1"
switch_word switch.SecondLevel = codes "-w2"
switch_word switch.ThirdLevel = codes "-w3"
switch_word switch.NoRemarks = codes "-vr"
switch_word switch.ErrorsAlone = codes "-ve"
switch_word switch.NoMessages = codes "-va"

-- this switch, where the word is written so, or else another
abbrev pub or_other : List ℕ → Switch → Option Switch → Option Switch
or_other word one other = cond (bytes_eq word (switch_word one)) (Some one) other

-- the switch that is written so, of those that change nothing here
abbrev pub level_of : List ℕ → Option Switch
level_of word =
    or_other word switch.NoSignon (
    or_other word switch.FirstLevel (
    or_other word switch.SecondLevel (
    or_other word switch.ThirdLevel None)))

-- the same of those and of the switches by which messages are not told
abbrev pub hiding_of : List ℕ → Option Switch
hiding_of word = or_other word switch.NoRemarks (or_other word switch.ErrorsAlone (or_other word switch.NoMessages (level_of word)))

-- the same of those and of the switches that are written with two hyphens
abbrev pub further_of : List ℕ → Option Switch
further_of word = or_other word switch.WrappedExternals (or_other word switch.Acpica (hiding_of word))

-- the switch that is written so
abbrev pub switch_of : List ℕ → Option Switch
switch_of word =
    or_other word switch.Brief (
    or_other word switch.Strict (
    or_other word switch.CText (
    or_other word switch.Listing (
    or_other word switch.Generic (
    or_other word switch.LongIntegers (
    or_other word switch.WrittenNames (
    or_other word switch.Unfolded (
    or_other word switch.Unoptimised (further_of word)))))))))

abbrev pub is_brief : Switch → Bool
is_brief switch.Brief = true
is_brief _ = false

abbrev pub is_strict : Switch → Bool
is_strict switch.Strict = true
is_strict _ = false

abbrev pub is_c_text : Switch → Bool
is_c_text switch.CText = true
is_c_text _ = false

abbrev pub is_listing : Switch → Bool
is_listing switch.Listing = true
is_listing _ = false

abbrev pub is_generic : Switch → Bool
is_generic switch.Generic = true
is_generic _ = false

-- operators on constants are kept
abbrev pub keeps_constants : Switch → Bool
keeps_constants switch.Unfolded = true
keeps_constants switch.Unoptimised = true
keeps_constants _ = false

-- 0, 1 and Ones keep the prefix of a literal
abbrev pub keeps_integers : Switch → Bool
keeps_integers switch.LongIntegers = true
keeps_integers switch.Unoptimised = true
keeps_integers _ = false

-- names keep their spelling
abbrev pub keeps_names : Switch → Bool
keeps_names switch.WrittenNames = true
keeps_names switch.Unoptimised = true
keeps_names _ = false

-- Externals stand in Ifs
abbrev pub wraps_externals : Switch → Bool
wraps_externals switch.WrappedExternals = true
wraps_externals switch.Acpica = true
wraps_externals _ = false

-- outputs are named as ACPICA's compiler names them
abbrev pub is_acpica : Switch → Bool
is_acpica switch.Acpica = true
is_acpica _ = false

-- remarks are not told
abbrev pub hides_remarks : Switch → Bool
hides_remarks switch.NoRemarks = true
hides_remarks switch.ErrorsAlone = true
hides_remarks switch.NoMessages = true
hides_remarks _ = false

-- warnings are not told
abbrev pub hides_warnings : Switch → Bool
hides_warnings switch.ErrorsAlone = true
hides_warnings switch.NoMessages = true
hides_warnings _ = false

-- errors are not told
abbrev pub hides_errors : Switch → Bool
hides_errors switch.NoMessages = true
hides_errors _ = false

abbrev pub no_switch : Switches
no_switch = record {
  brief = false;
  strict = false;
  c_text = false;
  listing = false;
  generic = false;
  fold = true;
  short = true;
  shorten =
      true;
  wrap = false;
  acpica = false;
  remarks = true;
  warnings = true;
  errors = true;
}

-- what switches ask for, with one more
abbrev pub with_switch : Switches → Switch → Switches
with_switch switches one = record {
  brief = switches.brief || is_brief one;
  strict = switches.strict || is_strict one;
  c_text = switches.c_text || is_c_text one;
  listing = switches.listing || is_listing one;
  generic = switches.generic || is_generic one;
  fold = switches.fold && not (keeps_constants one);
  short = switches.short && not (keeps_integers one);
  shorten = switches.shorten && not (keeps_names one);
  wrap = switches.wrap || wraps_externals one;
  acpica = switches.acpica || is_acpica one;
  remarks = switches.remarks && not (hides_remarks one);
  warnings = switches.warnings && not (hides_warnings one);
  errors = switches.errors && not (hides_errors one);
}
