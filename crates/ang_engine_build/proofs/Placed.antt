-- What a built program declares, and the statements of its bodies, stand at tokens of its sections.
use Rattle.std.proofs.Common.{◌≡◌, ℕ, zero, suc, ◌+◌, ◌-◌, ◌==◌, ◌<◌, ◌≤◌, Bool, true, false, List, [], ◌∷◌, length, take, drop, refl, sym, ap, subst, ◌∙◌, arith, length-append}
use Rattle.std.specs.Prelude.{if◌then◌else◌, Contains, Result, Ok, Err, Some, map, slice_get, slice_index_or}
use Rattle.std.proofs.lemmas.Bool.{cond-true, lt-ltb}
use Rattle.std.proofs.lemmas.List.{length-map, take-append-drop}
use Rattle.std.proofs.lemmas.Option.{same_Some}
use Rattle.ang_kinds.specs.declared.error.Error.{Error}
use Rattle.ang_kinds.specs.declared.place.Place.{Place}
use Rattle.ang_kinds.specs.declared.position.Position.{Position}
use Rattle.ang_kinds.specs.Positions.{from_zero, position_of}
use Rattle.ang_lex.specs.declared.error.LexError.{LexError}
use Rattle.ang_lex.specs.declared.token.Token.{Token}
use Rattle.ang_lex.specs.Bytes.{line_feed}
use Rattle.ang_lex.specs.Cuts.{IsCut, ended, gap, span}
use Rattle.ang_lex.specs.Tokens.{next_place, place_after, start_of, mark_len, tokens_of}
use Rattle.ang_lex.proofs.Cutting.{one_reading}
use Rattle.ang_tree.specs.Declarations.{Decl}
use Rattle.ang_tree.specs.Stmt.{Every}
use Rattle.ang_parse.specs.declared.error.ParseError.{ParseError}
use Rattle.ang_parse.specs.Answers.{script_of}
use Rattle.ang_parse.proofs.Answered.{script_found}
use Rattle.ang_view.specs.Registration.{RegistrationList}
use Rattle.ang_typed.specs.Typed as t
use Rattle.ang_names_known.specs.declared.names.Names.{Names}
use Rattle.ang_names_listed.specs.Declarations.{declarations_of}
use Rattle.ang_names_listed.specs.Sources.{Source}
use Rattle.ang_names_classes.specs.Resolved.{names_of}
use Rattle.ang_check.specs.Bodies.{program_of}
use Rattle.ang_check_sound.specs.Placed.{StandsAmong, StandsIn, tokens_in, ArePlaced, AreCounted}
use Rattle.ang_check_sound.proofs.Counted.{places_counted}
use Rattle.ang_check_sound.proofs.PlacesProgram.{program_placed}
use Rattle.ang_check_sound.proofs.Places.{all_of_each}
use Rattle.ang_engine_build.specs.Build.{Resolved, Compiled, after_reading, build_of}
use Rattle.ang_engine_build.specs.Placed.{IsTokenPlace, place_at, IsPlaced}
use Rattle.ang_engine_build.specs.Script.{with_script, with_tokens, source_from, joined, sources_of}
use Rattle.ang_engine_build.proofs.Programs.{IsResolution, scripts_resolve}

-- ---- places after bytes

-- After some bytes of section k: lines and columns count from 1, and a byte adds 1 at most to either.
record IsAfter (k bytes : ℕ) (p : Place) : Type 0 where
  section : p.sect ≡ k
  line : 1 ≤ p.line
  line_most : p.line ≤ bytes + 1
  column : 1 ≤ p.column
  column_most : p.column ≤ bytes + 1

start_after : (k : ℕ) → IsAfter k 0 (start_of k)
start_after k = record { section = refl; line = omega arith; line_most = omega arith; column = omega arith; column_most = omega arith }

byte_after : (k n : ℕ) (p : Place) (ends : Bool) → IsAfter k n p
    → IsAfter k (n + 1) (if ends then record p { line = p.line + 1; column = 1 } else record p { column = p.column + 1 })
byte_after k n p true h = record {
  section = h.section;
  line = omega arith;
  line_most = omega (arith, h.line_most);
  column = omega arith;
  column_most = omega arith;
}
byte_after k n p false h = record {
  section = h.section;
  line = h.line;
  line_most = omega (arith, h.line_most);
  column = omega arith;
  column_most = omega (arith, h.column_most);
}

bytes_after : (k n : ℕ) (p : Place) (bs : List ℕ) → IsAfter k n p → IsAfter k (n + length bs) (place_after p bs)
bytes_after k n p [] h = let same : n ≡ n + 0 = omega arith in subst (λ m. IsAfter k m p) same h
bytes_after k n p (b ∷ bs) h =
    let same : n + 1 + length bs ≡ n + suc (length bs) = omega arith in
    subst (λ m. IsAfter k m (place_after p (b ∷ bs))) same (bytes_after k (n + 1) (next_place p b) bs (byte_after k n p (b == line_feed) h))

-- ---- tokens

-- A token of section k stands where its position says.
abbrev IsHere : ℕ → Token → Type 0
IsHere k t = t.place ≡ place_at k (position_of t.place)

counted_from_zero : (n : ℕ) → 1 ≤ n → n ≤ 65536 → n ≡ from_zero n + 1
counted_from_zero n some few =
    let less : n - 1 < 65536 = omega (arith, some, few) in
    let back : n ≡ n - 1 + 1 = omega (arith, some) in
    back ∙ ap (λ m. m + 1) (sym (cond-true _ (n - 1) 65535 (lt-ltb (n - 1) 65536 less)))

place_of : ℕ → ℕ → ℕ → Place
place_of k l c = record { sect = k; line = l; column = c }

here_after : (k n : ℕ) (p : Place) → n < 65536 → IsAfter k n p → p ≡ place_at k (position_of p)
unfolding place_of
here_after k n p few h =
    ap (λ s. place_of s p.line p.column) h.section
    ∙ ap (λ l. place_of k l p.column) (counted_from_zero p.line h.line (omega (arith, few, h.line_most)))
    ∙ ap (λ c. place_of k (from_zero p.line + 1) c) (counted_from_zero p.column h.column (omega (arith, few, h.column_most)))

both_parts : (n : ℕ) (bs : List ℕ) → length (take n bs) + length (drop n bs) ≡ length bs
both_parts n bs = sym (length-append (take n bs) (drop n bs)) ∙ ap length (take-append-drop n bs)

tokens_here : {at : ℕ} {place : Place} {rest : List ℕ} {ts : List Token} → IsCut at place rest ts → (k m : ℕ) → IsAfter k m place → m + length rest ≤ 65536
    → Every (IsHere k) ts
tokens_here ended k m h fits = tt
tokens_here {at} {place} {rest} {ts} (gap n g behind) k m h fits =
    tokens_here behind k (m + length (take n rest)) (bytes_after k m place (take n rest) h) (omega (arith, fits, both_parts n rest))
tokens_here {at} {place} {rest} (span n s behind) k m h fits = (
  here_after k m place (omega (arith, fits, s.token.some, s.token.within)) h,
  tokens_here behind k (m + length (take n rest)) (bytes_after k m place (take n rest) h) (omega (arith, fits, both_parts n rest)),
)

section_here : (k : ℕ) (text : List ℕ) (ts : List Token) → tokens_of k text ≡ Ok ts → Every (IsHere k) ts
section_here k text ts e =
    let s = (one_reading k text ts).0 e in
    let n = mark_len text in
    tokens_here s.cut k (0 + length (take n text)) (bytes_after k 0 (start_of k) (take n text) (start_after k)) (omega (arith, s.size, both_parts n text))

-- ---- sections

-- Source i of these sections, of which the first has this number, was read of the tokens of its own section.
record IsRead (first : ℕ) (texts : List (List ℕ)) (i : ℕ) (s : Source) : Type 0 where
  text : List ℕ
  tokens : List Token
  there : slice_get texts i ≡ Some text
  read : tokens_of (first + i) text ≡ Ok tokens
  spelled : tokens ≡ tokens_in s

script_spelled : (text : List ℕ) (ts : List Token) (script : Result (List Decl) ParseError) (s : Source) → script_of text ts ≡ script → with_script text script ≡ Ok s
    → ts ≡ tokens_in s
script_spelled text ts (Ok ds) s is e =
    let same : ◌≡◌ {A = Source} (record { text = text; declarations = ds }) s = cc in
    (script_found text ts ds is).text ∙ ap tokens_in same
script_spelled text ts (Err f) s is e = absurd cc

record HasTokens (k : ℕ) (text : List ℕ) (s : Source) : Type 0 where
  tokens : List Token
  read : tokens_of k text ≡ Ok tokens
  spelled : tokens ≡ tokens_in s

source_spelled : (k : ℕ) (text : List ℕ) (read : Result (List Token) LexError) (s : Source) → tokens_of k text ≡ read → with_tokens text read ≡ Ok s → HasTokens k text s
source_spelled k text (Ok ts) s is e = record { tokens = ts; read = is; spelled = script_spelled text ts (script_of text ts) s refl e }
source_spelled k text (Err f) s is e = absurd cc

record AreJoined (x : Result Source Error) (others : Result (List Source) Error) (ss : List Source) : Type 0 where
  source : Source
  rest : List Source
  one : x ≡ Ok source
  more : others ≡ Ok rest
  all : source ∷ rest ≡ ss

joined_both : (x : Result Source Error) (others : Result (List Source) Error) (ss : List Source) → joined x others ≡ Ok ss → AreJoined x others ss
joined_both (Err f) others ss e = absurd cc
joined_both (Ok s) (Err f) ss e = absurd cc
joined_both (Ok s) (Ok rest) ss e = record { source = s; rest = rest; one = refl; more = refl; all = cc }

source_read : (first : ℕ) (texts : List (List ℕ)) (ss : List Source) (i : ℕ) (s : Source) → sources_of first texts ≡ Ok ss → slice_get ss i ≡ Some s → IsRead first texts i s
source_read first [] [] i s e at = absurd cc
source_read first [] (x ∷ ss) i s e at = absurd cc
source_read first (text ∷ texts) ss zero s e at =
    let j = joined_both (source_from first text) (sources_of (suc first) texts) ss e in
    let own : j.source ≡ s = same_Some j.source s (subst (λ zs. slice_get zs 0 ≡ Some s) (sym j.all) at) in
    let h = source_spelled first text (tokens_of first text) s refl (j.one ∙ ap (λ x. Ok x) own) in
    let number : first ≡ first + 0 = omega arith in
    record { text = text; tokens = h.tokens; there = refl; read = subst (λ k. tokens_of k text ≡ Ok h.tokens) number h.read; spelled = h.spelled }
source_read first (text ∷ texts) ss (suc i) s e at =
    let j = joined_both (source_from first text) (sources_of (suc first) texts) ss e in
    let r = source_read (suc first) texts j.rest i s j.more (subst (λ zs. slice_get zs (suc i) ≡ Some s) (sym j.all) at) in
    let number : suc first + i ≡ first + suc i = omega arith in
    record { text = r.text; tokens = r.tokens; there = r.there; read = subst (λ k. tokens_of k r.text ≡ Ok r.tokens) number r.read; spelled = r.spelled }

-- ---- what stands among a section's tokens

mapped_at : {A B : Type 0} (f : A → B) (xs : List A) (i : ℕ) (x : A) → i < length xs → slice_index_or xs i x ≡ x → slice_index_or (map f xs) i (f x) ≡ f x
mapped_at f [] i x less e = let no : ⊥ = omega (arith, less) in absurd no
mapped_at f (y ∷ xs) zero x less e = ap f e
mapped_at f (y ∷ xs) (suc i) x less e = mapped_at f xs i x (omega (arith, less)) e

map_has : {A B : Type 0} (f : A → B) (xs : List A) (x : A) → Contains xs x → Contains (map f xs) (f x)
map_has f xs x h = (h.0, omega (arith, h.1, length-map xs f), mapped_at f xs h.0 x h.1 h.2)

abbrev places_of : List Token → List Place
places_of ts = map (λ (t : Token). t.place) ts

abbrev positions_in : List Token → List Position
positions_in ts = map (λ (t : Token). position_of t.place) ts

same_places : (k : ℕ) (ts : List Token) → Every (IsHere k) ts → map (place_at k) (positions_in ts) ≡ places_of ts
same_places k [] h = refl
same_places k (t ∷ ts) h = ap (λ p. p ∷ map (place_at k) (positions_in ts)) (sym h.0) ∙ ap (λ ps. t.place ∷ ps) (same_places k ts h.1)

each_in_section : (k : ℕ) (ts : List Token) → Every (IsHere k) ts → Every (λ (p : Place). p.sect ≡ k) (places_of ts)
each_in_section k [] h = tt
each_in_section k (t ∷ ts) h = (ap (λ (p : Place). p.sect) h.0, each_in_section k ts h.1)

in_section : (k : ℕ) (ts : List Token) (p : Place) → Every (IsHere k) ts → Contains (places_of ts) p → p.sect ≡ k
in_section k ts p h c =
    subst (λ (q : Place). q.sect ≡ k) c.2 (all_of_each (λ (q : Place). q.sect ≡ k) (places_of ts) (each_in_section k ts h) c.0 p c.1)

module _ (sections : List (List ℕ)) (k : ℕ) (text : List ℕ) (tokens : List Token) (there : slice_get sections k ≡ Some text) (read : tokens_of k text ≡ Ok tokens) where
  at_token : (p : Place) → p.sect ≡ k → Contains (places_of tokens) p → IsTokenPlace sections p
  at_token p e among = record { text = text; tokens = tokens; there = ap (slice_get sections) e ∙ there; read = ap (λ n. tokens_of n text) e ∙ read; among = among }

  among_placed : (name : Place) (statements : List Position) → StandsAmong tokens name statements → IsPlaced sections name statements
  among_placed name statements h =
      let here = section_here k text tokens read in
      let own : name.sect ≡ k = in_section k tokens name here h.name_is in
      record {
        name_is = at_token name own h.name_is;
        statements_are = λ q c. subst (λ n. IsTokenPlace sections (place_at n q)) (sym own)
            (at_token (place_at k q) refl
            (subst (λ ps. Contains ps (place_at k q)) (same_places k tokens here) (map_has (place_at k) (positions_in tokens) q (h.statements_are q c))));
      }

stands_placed : (sections : List (List ℕ)) (ss : List Source) (name : Place) (statements : List Position) → sources_of 0 sections ≡ Ok ss
    → StandsIn ss name statements → IsPlaced sections name statements
stands_placed sections ss name statements e h =
    let r = source_read 0 sections ss h.number h.source e h.there in
    let number : 0 + h.number ≡ h.number = omega arith in
    among_placed sections h.number r.text r.tokens r.there (subst (λ k. tokens_of k r.text ≡ Ok r.tokens) number r.read) name statements
    (subst (λ ts. StandsAmong ts name statements) (sym r.spelled) h.among)

-- ---- of a program

placed_so : (P Q : Place → List Position → Type 0) (names : Names) (p : t.Program) → ((x : Place) (qs : List Position) → P x qs → Q x qs)
    → ArePlaced P names p → ArePlaced Q names p
placed_so P Q names p so h = record {
  functions = λ n f g at is. so f.place g.positions (h.functions n f g at is);
  methods = λ c m n f y g at there has is. so y.function.place g.positions (h.methods c m n f y g at there has is);
  constructors = λ c m f y g at there is. so y.function.place g.positions (h.constructors c m f y g at there is);
  globals = λ n g at. so g.place [] (h.globals n g at);
}

module _ (V : RegistrationList) (sections : List (List ℕ)) (ss : List Source) (r : Resolved) (read : sources_of 0 sections ≡ Ok ss) (h : IsResolution V ss r) where
  placed_scripts : ArePlaced (IsPlaced sections) r.names r.tree
  placed_scripts =
      let names = names_of V (declarations_of ss) in
      subst (λ (q : Resolved). ArePlaced (IsPlaced sections) q.names q.tree) h.is
      (placed_so (StandsIn ss) (IsPlaced sections) names (program_of V names ss) (λ x qs. stands_placed sections ss x qs read)
      (program_placed V names ss refl h.accepted))

  counted_scripts : AreCounted r.tree
  counted_scripts = subst (λ (q : Resolved). AreCounted q.tree) h.is (places_counted V (names_of V (declarations_of ss)) ss refl h.accepted)

placed_read : (V : RegistrationList) (sections : List (List ℕ)) (read : Result (List Source) Error) (r : Resolved) → sources_of 0 sections ≡ read
    → after_reading V read ≡ Compiled r → ArePlaced (IsPlaced sections) r.names r.tree
placed_read V sections (Ok ss) r same is = placed_scripts V sections ss r same (scripts_resolve V ss r is)
placed_read V sections (Err e) r same is = cc

counted_read : (V : RegistrationList) (sections : List (List ℕ)) (read : Result (List Source) Error) (r : Resolved) → sources_of 0 sections ≡ read
    → after_reading V read ≡ Compiled r → AreCounted r.tree
counted_read V sections (Ok ss) r same is = counted_scripts V sections ss r same (scripts_resolve V ss r is)
counted_read V sections (Err e) r same is = absurd cc

-- names and statements stand at tokens
pub program-placed : (V : RegistrationList) (sections : List (List ℕ)) (r : Resolved) → build_of V sections ≡ Compiled r → ArePlaced (IsPlaced sections) r.names r.tree
program-placed V sections r is = placed_read V sections (sources_of 0 sections) r refl is

-- there is a place for each statement
pub program-counted : (V : RegistrationList) (sections : List (List ℕ)) (r : Resolved) → build_of V sections ≡ Compiled r → AreCounted r.tree
program-counted V sections r is = counted_read V sections (sources_of 0 sections) r refl is
