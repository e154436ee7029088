-- Texts of models are whole texts: what is known of those, of these.
use Rattle.std.proofs.Common.{◌≡◌, ℕ, List, [], refl, Result}
use Rattle.pb_protocol_tree.specs.declared.header.ModelText.{ModelText}
use Rattle.pb_protocol_tree.specs.Form.{ModelTextForm, model_text_form}
use Rattle.pb_text_lexer.specs.declared.fault.Refusal.{Refusal}
use Rattle.pb_base.specs.declared.or_memory.OrMemory.{OrMemory}
use Rattle.pb_text_lexer.specs.declared.language.Language.TheVariants as language
use Rattle.pb_text_lexer.specs.Grammar.{State}
use Rattle.pb_text_lexer.specs.Steps.{Gives}
use Rattle.pb_text_lexer.proofs.Correct.{st}
use Rattle.pb_text.specs.Parsing.{depth_limit, operator_limit}
use Rattle.pb_text.proofs.CorrectWhole.{TextSyntax}
use Rattle.pb_text.proofs.WholeLemmas as texts
use Rattle.pb_model_text.specs.Models.{IsModel}
use Rattle.pb_model_text.specs.Parsing.{IsModelReadingWithin, AtMostOneModelReading, BeginsModel, IsModelRefusal, IsBrokenModel}
use Rattle.pb_model_text.specs.ModelReading.{model, whole_model}
use Rattle.pb_model_text.proofs.CorrectModel.{properties_go, end-stops, model-correct, with_ranges, other-ranges, ranges-are}

abbrev pub model_syntax : TextSyntax
model_syntax = record {
  Form = ModelTextForm;
  Says = IsModel;
  text = model;
  goes = properties_go;
  correct = model-correct;
  closes = end-stops;
  put = with_ranges;
  puts_last = λ rs us y. refl;
  says_put = other-ranges;
  is_put = ranges-are;
  Begins = BeginsModel;
  begins = λ d n tokens tail ranges x says. record { tail = tail; ranges = ranges; model = x; says = says };
  language = language.Model;
  Tree = ModelText;
  form = model_text_form;
  ReadingWithin = IsModelReadingWithin;
  reading = λ d n bytes x tokens ranges cut says. record { tokens = tokens; ranges = ranges; cut = cut; says = says };
  cut_of = λ d n bytes x h. (h.tokens, h.ranges, h.cut, h.says);
  Broken = IsBrokenModel;
  broken = λ bytes kind place front defect goes_on first. record { front = front; defect = defect; goes_on = goes_on; first = first };
  Refused = IsModelRefusal;
  refused = λ bytes rule place front next begins stands limited none goes_on first.
      record { front = front; next = next; begins = begins; stands = stands; limited = limited; none = none; goes_on = goes_on; first = first };
}

pub at_most_one : AtMostOneModelReading
at_most_one = texts.at-most-one model_syntax

pub answered : (bytes : List ℕ) (s : State) (result : Result ModelText (OrMemory Refusal)) (z : State)
    → s ≡ st (texts.all_tokens model_syntax bytes) operator_limit → Gives model_text_form (whole_model [] depth_limit s) result z → texts.Answered model_syntax bytes result
unfolding whole_model
answered = texts.answered model_syntax
