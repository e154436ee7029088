-- What a `CallPlaces` shows: its text, and the layout of the text's instances.
use Rattle.std.specs.Prelude.{List}
use Rattle.pb_text_tree.specs.Form.{SpecForm, spec_form}
use Rattle.pb_sorts.specs.declared.carrier.Carrier.{Carrier}
use Rattle.pb_typing_calls.specs.declared.places.CallPlaces.{CallPlaces}

-- the text that it is of
abbrev pub said_by : CallPlaces → SpecForm
said_by places = spec_form places.typed.now.spec

-- the carriers of each equation's parameters
abbrev pub layout_of : CallPlaces → List (List Carrier)
layout_of places = places.typed.now.layout
