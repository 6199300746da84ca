-- The verbs by their names.
use Rattle.std.specs.Prelude.{ℕ, Bool, cond, ◌||◌, ◌==◌, List, [], ◌∷◌, length, slice_index, Option, Some, None, Result, Ok, codes}
use Rattle.std.specs.Option.{ok_or, option_map}
use Rattle.std.specs.List.{find}
use Rattle.std.specs.Str.{bytes_eq}
use Rattle.commands.specs.declared.reason.Reason.{Reason}
use Rattle.commands.specs.declared.reason.Reason.TheVariants.{UnknownCommand}
use Rattle.commands.specs.declared.verb.Verb.{Verb}
use Rattle.commands.specs.declared.verb.Verb.TheVariants.{Scene, Lay, Gradient, Picture, Run, Append, Show, Shape, Table, Glyph, Resolver, Resolve, Keep, Reject, Mark, Plain, State, View}

abbrev pub verb_name : Verb → List ℕ
verb_name Scene = codes "scene"
verb_name Lay = codes "lay"
verb_name Gradient = codes "gradient"
verb_name Picture = codes "picture"
verb_name Run = codes "run"
verb_name Append = codes "append"
verb_name Show = codes "show"
verb_name Shape = codes "shape"
verb_name Table = codes "table"
verb_name Glyph = codes "glyph"
verb_name Resolver = codes "resolver"
verb_name Resolve = codes "resolve"
verb_name Keep = codes "keep"
verb_name Reject = codes "reject"
verb_name Mark = codes "mark"
verb_name Plain = codes "plain"
verb_name State = codes "state"
verb_name View = codes "view"

abbrev pub verbs : List Verb
verbs = Scene ∷ Lay ∷ Gradient ∷ Picture ∷ Run ∷ Append ∷ Show ∷ Shape ∷ Table ∷ Glyph ∷ Resolver ∷ Resolve ∷ Keep ∷ Reject ∷ Mark ∷ Plain ∷ State ∷ View ∷ []

-- the verb that has the word's name, if one has
unfoldable pub verb_of : List ℕ → Option Verb
verb_of word = find (λ v. bytes_eq (verb_name v) word) verbs

-- whether a line is passed over, by its first word: it has none, or a comment begins
abbrev pub is_passed_over : List ℕ → Bool
is_passed_over word = length word == 0 || slice_index word 0 == 35

abbrev pub read_verb : List ℕ → Result (Option Verb) Reason
read_verb word = cond (is_passed_over word) (Ok None) (ok_or (option_map (λ v. Some v) (verb_of word)) UnknownCommand)
