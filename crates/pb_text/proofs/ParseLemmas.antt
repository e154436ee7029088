-- Texts of equation systems are whole texts: what is known of those, of these.
use Rattle.std.proofs.Common.{◌≡◌, ℕ, List, [], refl, Result}
use Rattle.pb_text_tree.specs.declared.spec.Spec.{Spec}
use Rattle.pb_text_tree.specs.Form.{SpecForm, spec_form}
use Rattle.pb_text_lexer.specs.declared.fault.Refusal.{Refusal}
use Rattle.pb_base.specs.declared.or_memory.OrMemory.{OrMemory}
use Rattle.pb_text_lexer.specs.declared.language.Language.TheVariants.{Text}
use Rattle.pb_text_lexer.specs.Grammar.{State}
use Rattle.pb_text_lexer.specs.Steps.{Gives}
use Rattle.pb_text_lexer.proofs.Correct.{st, never}
use Rattle.pb_text.specs.Grammar.{IsSpec}
use Rattle.pb_text.specs.Parsing.{depth_limit, operator_limit, IsReadingWithin, AtMostOneReading, BeginsText, IsRefusal, IsBroken}
use Rattle.pb_text.specs.Reading.{text, whole_text}
use Rattle.pb_text.proofs.CorrectText.{text-correct, other-ranges, ranges-are}
use Rattle.pb_text.proofs.CorrectWhole.{TextSyntax}
use Rattle.pb_text.proofs.WholeLemmas as texts

abbrev pub text_syntax : TextSyntax
text_syntax = record {
  Form = SpecForm;
  Says = IsSpec;
  text = text;
  goes = never;
  correct = text-correct;
  closes = refl;
  put = λ ranges x. record x { ranges = ranges };
  puts_last = λ rs us y. refl;
  says_put = other-ranges;
  is_put = ranges-are;
  Begins = BeginsText;
  begins = λ d n tokens tail ranges x says. record { tail = tail; ranges = ranges; text = x; says = says };
  language = Text;
  Tree = Spec;
  form = spec_form;
  ReadingWithin = IsReadingWithin;
  reading = λ d n bytes x tokens ranges cut says. record { tokens = tokens; ranges = ranges; cut = cut; says = says };
  cut_of = λ d n bytes x h. (h.tokens, h.ranges, h.cut, h.says);
  Broken = IsBroken;
  broken = λ bytes kind place front defect goes_on first. record { front = front; defect = defect; goes_on = goes_on; first = first };
  Refused = IsRefusal;
  refused = λ bytes rule place front next begins stands limited none goes_on first.
      record { front = front; next = next; begins = begins; stands = stands; limited = limited; none = none; goes_on = goes_on; first = first };
}

pub at_most_one : AtMostOneReading
at_most_one = texts.at-most-one text_syntax

pub answered : (bytes : List ℕ) (s : State) (result : Result Spec (OrMemory Refusal)) (z : State)
    → s ≡ st (texts.all_tokens text_syntax bytes) operator_limit → Gives spec_form (whole_text [] depth_limit s) result z → texts.Answered text_syntax bytes result
unfolding whole_text
answered = texts.answered text_syntax
