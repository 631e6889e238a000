-- The text of an ask, and of a post (docs/FORMATS.md, "The conversation of asremote").
use Rattle.std.specs.Prelude.{ℕ, ◌==◌, Bool, true, false, List, [], ◌∷◌, ◌++◌, Option, Some, None, codes, decimal, flat_map}
use Rattle.std.specs.List.{list_any}
use Rattle.std.specs.Fmt.{signed_decimal}
use Rattle.ang_kinds.specs.declared.value.Value.{Value}
use Rattle.ang_kinds.specs.declared.value.Value.TheVariants as value
use Rattle.asrun_lines.specs.Texts.{key_text, object_text}
use Rattle.ang_host.specs.State.{Ask, make, call, read, write, end}
use Rattle.ang_remote.specs.declared.asks.AskKind.{AskKind}
use Rattle.ang_remote.specs.declared.asks.AskKind.TheVariants as kind

-- `7`, `-7`, `7u`, `true`, `#7`, `null`
unfoldable pub value_text : Value → List ℕ
value_text (value.Int n) = signed_decimal n
value_text (value.Uint n) = decimal n ++ codes "u"
value_text (value.Bool true) = codes "true"
value_text (value.Bool false) = codes "false"
value_text (value.Key None) = codes "null"
value_text (value.Key (Some k)) = key_text k

-- values with a comma between two
unfoldable pub values_text : List Value → List ℕ
values_text [] = []
values_text (v ∷ vs) = value_text v ++ flat_map (λ w. codes "," ++ value_text w) vs

unfoldable pub kind_text : AskKind → List ℕ
kind_text kind.Make = codes "make"
kind_text kind.Call = codes "call"
kind_text kind.Read = codes "read"
kind_text kind.Write = codes "write"

-- whether a call is posted, of a driver that is posted these functions: a method never is
abbrev pub is_posted_call : List ℕ → ℕ → Option ℕ → Bool
is_posted_call posted f None = list_any (λ p. p == f) posted
is_posted_call posted f (Some k) = false

-- whether a host call is posted
abbrev pub is_posted : List ℕ → Ask → Bool
is_posted posted (make f args) = false
is_posted posted (call f object args) = is_posted_call posted f object
is_posted posted (read f object) = false
is_posted posted (write f object v) = false
is_posted posted (end k) = false

unfoldable pub word_text : Bool → List ℕ
word_text true = codes "post "
word_text false = codes "ask "

-- `ask DRIVER KIND F OBJECT (V,V)`, with its LF, or, where it is posted, the same with `post`
unfoldable pub line_text : Bool → ℕ → AskKind → ℕ → Option ℕ → List Value → List ℕ
line_text posted driver kind f object values =
    word_text posted ++ decimal driver ++ codes " " ++ kind_text kind ++ codes " " ++ decimal f ++ codes " "
    ++ object_text object ++ codes " (" ++ values_text values ++ codes ")\n"

-- the line of each host call; the end of a key is not told
abbrev pub ask_text : ℕ → List ℕ → Ask → List ℕ
ask_text driver posted (make f args) = line_text false driver kind.Make f None args
ask_text driver posted (call f object args) =
    line_text (is_posted_call posted f object) driver kind.Call f object args
ask_text driver posted (read f object) = line_text false driver kind.Read f object []
ask_text driver posted (write f object v) = line_text false driver kind.Write f object (v ∷ [])
ask_text driver posted (end k) = []
