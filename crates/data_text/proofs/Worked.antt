-- Values and lines worked out by computation.
use Rattle.std.proofs.Common.{◌≡◌, true, false, [], ◌∷◌, codes, Some, None, refl}
use Rattle.data_text.specs.declared.comments.Mode.TheVariants.{Plain}
use Rattle.data_text.specs.Labels.{label_key, ending}
use Rattle.data_text.specs.Comments.{uncommented_from}
use Rattle.data_text.specs.Parts.{after_bracket, before_remark, halves}
use Rattle.data_text.specs.Values.{number_in, text_in, bytes_in}

number : number_in (codes " 0x00fF ") ≡ Some 255
number = refl

no_number : number_in (codes "0X1") ≡ None
no_number = refl

text : text_in (codes " \"OEMX00\" ") ≡ Some (codes "OEMX00")
text = refl

no_text : text_in (codes "\"A\"B\"") ≡ None
no_text = refl

bytes : bytes_in (codes "0A  14\t") ≡ Some (10 ∷ 20 ∷ [])
bytes = refl

no_bytes : bytes_in (codes "0A14") ≡ None
no_bytes = refl

label : label_key (codes "Oem Table ID ") ≡ codes "oemtableid"
label = refl

comments : uncommented_from Plain (codes "a/* [ */\"//\"// b") ≡ codes "a       \"//\"    "
comments = refl

bracket : after_bracket (codes "[0004] Model : 1") ≡ (codes " Model : 1", true)
bracket = refl

remark : before_remark false (codes "Model : \"[\" [x]") ≡ codes "Model : \"[\" "
remark = refl

parts : halves (codes " Model : 1:2") ≡ Some (codes " Model ", codes " 1:2")
parts = refl

goes_on : ending (codes " 0A \\ ") ≡ (codes " 0A ", true)
goes_on = refl
