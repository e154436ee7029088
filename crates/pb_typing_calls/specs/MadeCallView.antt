-- What the calls of the code say.
use Rattle.std.specs.Prelude.{List, map}
use Rattle.pb_typing_calls.specs.MadeCalls as calls
use Rattle.pb_typing_calls.specs.declared.made_call.MadeCall.{MadeCall}

abbrev pub call_view : MadeCall → calls.MadeCall
call_view c = record {
  place = c.place;
  own = c.own.items;
  instance = record { equation = c.equation; values = c.values.items };
}

abbrev pub call_views : List MadeCall → List calls.MadeCall
call_views = map call_view
