-- Where the texts of values go.
use Rattle.std.specs.Prelude.{Bool, true, false, List, [], ◌∷◌, ◌++◌, codes}
use Rattle.just_names.specs.Texts.{Text}
use Rattle.just_bench_values.specs.declared.sink.Sink.{Sink}
use Rattle.just_bench_values.specs.declared.sink.Sink.TheVariants as sink

-- a text before another: a blank stands between where they belong to one value
abbrev pub spaced : Bool → Text → Text
spaced true written = written ++ codes " "
spaced false written = written

-- a text goes to a sink
abbrev pub sent_one : Sink → Text → Sink
sent_one (sink.Texts texts) text = sink.Texts (texts ++ text ∷ [])
sent_one (sink.Joined written apart) text = sink.Joined (spaced apart written ++ text) true

-- the texts of a value go to a sink
abbrev pub sent : Sink → List Text → Sink
sent s [] = s
sent s (text ∷ texts) = sent (sent_one s text) texts

-- whether the next text follows another of its value
abbrev pub set_apart : Bool → Sink → Sink
set_apart apart (sink.Texts texts) = sink.Texts texts
set_apart apart (sink.Joined written before) = sink.Joined written apart

-- the texts that a sink has
abbrev pub texts_of : Sink → List Text
texts_of (sink.Texts texts) = texts
texts_of (sink.Joined written apart) = written ∷ []
