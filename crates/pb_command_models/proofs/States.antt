-- States are told as those of the protocol that they say.
use Rattle.std.proofs.Common.{◌≡◌, Bool, true, false, [], Option, None, refl, ap, subst}
use Rattle.pb_model_tree.specs.Form.{ModelForm}
use Rattle.pb_model_meaning.specs.Erase.{erase}
use Rattle.pb_model_meaning.specs.Syntax as model
use Rattle.pb_model_meaning.specs.Steps.{State, is_state}
use Rattle.pb_model_words.specs.Laws.{StatesSayTheirValues}
use Rattle.pb_model_words.specs.States.{says, says_by}
use Rattle.pb_model_words.specs.Vocabulary.{Vocabulary}
use Rattle.pb_protocol_meaning.specs.Syntax.{Protocol}
use Rattle.pb_protocol_meaning.specs.Erase as protocol_text
use Rattle.pb_protocol_unfolder.specs.Plain.{is_plain_protocol}
use Rattle.pb_model_properties.specs.Made.{IsPackedWhere, said_where}
use Rattle.pb_model_properties.specs.Said.{IsModelOf}
use Rattle.pb_model_properties.specs.Words.{flat_words, packed_where, words_where}
use Rattle.pb_command_models.specs.Why.{StatesAreTold}

-- a flat model's words have no groups
no_groups : (b : Bool) (protocol : Protocol) (flat : ModelForm) → (words_where b protocol flat).groups ≡ None
no_groups true protocol flat = refl
no_groups false protocol flat = refl

said_as : StatesSayTheirValues → (m flat : ModelForm) (words : Vocabulary) → words.groups ≡ None → (b : Bool) → IsPackedWhere b flat m → (t : State)
    → is_state (erase m) t ≡ true → says (packed_where b flat words) t ≡ said_where b flat t
said_as law m flat words none false same t is = ap (λ (gs : Option _). says_by gs [] t) none
said_as law m flat words none true (able, meaning) t is = (law (erase flat) words [] t able (subst (λ (x : model.Model). is_state x t ≡ true) meaning is)).0

pub states_are_told : StatesSayTheirValues → (bytes : _) (m : ModelForm) (said : IsModelOf bytes m) → StatesAreTold bytes m said
states_are_told law bytes m said t is =
    let made = said.is_for.made in
    said_as law m made.flat (flat_words said.protocol made.flat) (no_groups (is_plain_protocol said.protocol) (protocol_text.erase said.protocol) made.flat)
    made.is_packed made.made t is
