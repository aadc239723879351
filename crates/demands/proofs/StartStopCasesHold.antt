-- Document 02, (g): the cases of what to call, and when, hold. Assumes nothing.
use mathlib.Core.Path.{refl, ap}
use Rattle.std.specs.Prelude.{Option, unwrap_or, ℕ}
use Rattle.words.specs.Memory.{tab}
use Rattle.binder.specs.Bind.{unless}
use Rattle.start_stop.specs.StartStop.{
  function_of,
  words_of,
  starts_of,
  stops_of,
  in_turn,
  start_list,
  stop_list,
  in_span,
  arrays_ok,
  arrays_verdict,
  lists_verdict,
}
use Rattle.demands.specs.StartStopCases.{ObjectCalls, PairCalls, ArrayRefusals, StartStopCases}

pub object_calls : ObjectCalls
unfolding function_of words_of starts_of stops_of tab
object_calls =
    record {
      value_0 = λ base. refl;
      value_1 = refl;
      wraps = refl;
      starts = λ base m. refl;
      stops = λ base m. refl;
      size_23 = λ f pointer size. rw (pointer, size);
      no_pointer = λ f pointer. rw pointer;
      no_size = λ f pointer size. rw (pointer, size);
      relocated_words = λ o f arena init pointer size. rw (init, pointer, size);
      placed_tags = λ S files arena k placed again. ap (λ (x : Option ℕ). unwrap_or x 0) placed;
    }

pub pair_calls : PairCalls
unfolding function_of words_of starts_of stops_of in_turn start_list stop_list in_span arrays_ok arrays_verdict lists_verdict unless tab
pair_calls =
    record {
      start_list_lem = λ p l. refl;
      stop_list_lem = λ p l. refl;
      slices_fit = λ p l. refl;
      start_short = λ p l. refl;
      stop_short = λ p l. refl;
    }

pub array_refusals : ArrayRefusals
unfolding in_span arrays_ok arrays_verdict lists_verdict unless
array_refusals =
    record {
      to_the_end = refl;
      past_the_end = refl;
      empty = λ span at. refl;
      library_preinit = λ c inits finis. rw (inits, finis);
      program_preinit = λ c inits finis preinits. rw (inits, finis, preinits);
      first_in_order = λ calls library program. rw library;
      refusal_26_first = λ calls order starts stops k arrays short. rw arrays;
    }

pub start_stop_cases : StartStopCases
start_stop_cases = record { of_objects = object_calls; of_pairs = pair_calls; of_arrays = array_refusals }
