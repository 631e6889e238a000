-- Numbers of kinds go on saying the same where there are more kinds.
use Rattle.std.proofs.Common.{◌≡◌, ℕ, Bool, true, false, zero, suc, ◌+◌, ◌<◌, ◌≤◌, List, [], ◌∷◌, ◌++◌, length, map, take, drop, Option, Some, None, get_or, arith, refl, sym, ap, subst, ◌∙◌}
use Rattle.std.specs.Prelude.{slice_get, option_map}
use Rattle.std.specs.Option.{option_flatten}
use Rattle.std.proofs.lemmas.List.{drop_more, length-append, map-append}
use Rattle.std.proofs.lemmas.Option.{same_Some, slice_get-map}
use Rattle.ang_types.specs.Overloads.{Params}
use Rattle.ang_names_known.specs.declared.kinds.Span.{Span}
use Rattle.ang_names_known.specs.KindRows.{AreWithin, at_span, row_at, rows_of}
use Rattle.ang_names_known.specs.declared.names.Family.{Family}
use Rattle.ang_names_known.specs.declared.names.ScriptFunction.{ScriptFunction}
use Rattle.ang_names_known.specs.declared.names.ScriptMethod.{ScriptMethod}
use Rattle.ang_names_known.specs.Kinds.{AreRows, Keeps, Kind, Rows, Says, function_params, kinds_at, kinds_of, method_params, numbered, params_on, receiver, receiver_number, told_of}
use Rattle.ang_names_known.specs.Lookup.{parameters_of}
use Rattle.ang_names_known.specs.Numbering.{rows_wanted}

-- ---- numbers

-- the numbers of more kinds say what they said, where they said something
pub kept_kinds : (old new : List Kind) → Keeps old new → (ns : List ℕ) (rest : List (Option Kind)) (all : Params) → kinds_at old ns ++ rest ≡ map Some all → kinds_at new ns ≡ kinds_at old ns
kept_kinds old new keeps [] rest all e = refl
kept_kinds old new keeps (n ∷ ns) rest [] e = cc
kept_kinds old new keeps (n ∷ ns) rest (p ∷ all) e =
    let here : slice_get old n ≡ Some p = cc in
    let there : kinds_at old ns ++ rest ≡ map Some all = cc in
    λ i. (keeps n p here ∙ sym here) i ∷ kept_kinds old new keeps ns rest all there i

-- one number more
pub number_pushed : (old new : List Kind) → Keeps old new → (ns : List ℕ) (n : ℕ) (p : Kind) (rest : List (Option Kind)) (all : Params)
    → kinds_at old ns ++ Some p ∷ rest ≡ map Some all → slice_get new n ≡ Some p → kinds_at new (ns ++ n ∷ []) ++ rest ≡ map Some all
number_pushed old new keeps [] n p rest [] e is = cc
number_pushed old new keeps [] n p rest (q ∷ all) e is = (λ i. is i ∷ rest) ∙ e
number_pushed old new keeps (m ∷ ns) n p rest [] e is = cc
number_pushed old new keeps (m ∷ ns) n p rest (q ∷ all) e is =
    let here : slice_get old m ≡ Some q = cc in
    let there : kinds_at old ns ++ Some p ∷ rest ≡ map Some all = cc in
    λ i. keeps m q here i ∷ number_pushed old new keeps ns n p rest all there is i

-- ---- rows

kept_row : (old new : List Kind) → Keeps old new → (row : Option (List ℕ)) (o : Option Params) → option_map (kinds_at old) row ≡ option_map (map Some) o
    → option_map (kinds_at new) row ≡ option_map (kinds_at old) row
kept_row old new keeps None o e = refl
kept_row old new keeps (Some ns) None e = cc
kept_row old new keeps (Some ns) (Some ps) e =
    let says : kinds_at old ns ≡ map Some ps = same_Some (kinds_at old ns) (map Some ps) e in
    ap Some (kept_all ns ps says)
  where
    kept_all : (ns : List ℕ) (ps : Params) → kinds_at old ns ≡ map Some ps → kinds_at new ns ≡ kinds_at old ns
    kept_all [] ps e = refl
    kept_all (n ∷ ns) [] e = cc
    kept_all (n ∷ ns) (p ∷ ps) e =
        let here : slice_get old n ≡ Some p = cc in
        let there : kinds_at old ns ≡ map Some ps = cc in
        λ i. (keeps n p here ∙ sym here) i ∷ kept_all ns ps there i

pub kept_rows : (old new : List Kind) → Keeps old new → (rows : Rows) (rest : List (Option (List (Option Kind)))) (all : List (Option Params)) → kinds_of old rows ++ rest ≡ told_of all
    → kinds_of new rows ≡ kinds_of old rows
kept_rows old new keeps [] rest all e = refl
kept_rows old new keeps (row ∷ rows) rest [] e = cc
kept_rows old new keeps (row ∷ rows) rest (o ∷ all) e =
    let here : option_map (kinds_at old) row ≡ option_map (map Some) o = cc in
    let there : kinds_of old rows ++ rest ≡ told_of all = cc in
    λ i. kept_row old new keeps row o here i ∷ kept_rows old new keeps rows rest all there i

nothing_after : {A : Type 0} → (xs : List A) → xs ++ [] ≡ xs
nothing_after [] = refl
nothing_after (x ∷ xs) = ap (λ r. x ∷ r) (nothing_after xs)

-- rows that were told go on being so
pub rows_stay : (old new : List Kind) → ((t : ℕ) → Keeps (numbered t old) (numbered t new)) → (rows : Rows) (params : ℕ → List (Option Params)) → AreRows old rows params → AreRows new rows params
rows_stay old new keeps rows params are = λ t.
    kept_rows (numbered t old) (numbered t new) (keeps t) rows [] (params t) (nothing_after (kinds_of (numbered t old) rows) ∙ are t) ∙ are t

one_after : {A : Type 0} → (xs : List A) (x : A) (ys : List A) → (xs ++ x ∷ []) ++ ys ≡ xs ++ x ∷ ys
one_after [] x ys = refl
one_after (z ∷ xs) x ys = ap (λ r. z ∷ r) (one_after xs x ys)

-- one row more
pub row_pushed : (old new : List Kind) → Keeps old new → (rows : Rows) (row : Option (List ℕ)) (o : Option Params) (rest : List (Option (List (Option Kind)))) (all : List (Option Params))
    → kinds_of old rows ++ option_map (map Some) o ∷ rest ≡ told_of all → option_map (kinds_at new) row ≡ option_map (map Some) o → kinds_of new (rows ++ row ∷ []) ++ rest ≡ told_of all
row_pushed old new keeps rows row o rest all e says =
    let before : kinds_of new rows ≡ kinds_of old rows = kept_rows old new keeps rows (option_map (map Some) o ∷ rest) all e in
    ap (λ r. r ++ rest) (map-append (option_map (kinds_at new)) rows (row ∷ []))
    ∙ one_after (kinds_of new rows) (option_map (kinds_at new) row) rest
    ∙ (λ i. before i ++ says i ∷ rest)
    ∙ e

-- the row of a function more
pub row_added : (old new : List Kind) → Keeps old new → (rows new_rows : Rows) (ns : List ℕ) (ps : Params) (rest all : List (Option Params))
    → kinds_of old rows ++ told_of (Some ps ∷ rest) ≡ told_of all → kinds_at new ns ≡ map Some ps → new_rows ≡ rows ++ Some ns ∷ []
    → kinds_of new new_rows ++ told_of rest ≡ told_of all
row_added old new keeps rows new_rows ns ps rest all e says pushed =
    ap (λ r. kinds_of new r ++ told_of rest) pushed ∙ row_pushed old new keeps rows (Some ns) (Some ps) (told_of rest) all e (ap Some says)

-- no row is left to come
pub rows_end : (kinds : List Kind) (rows : Rows) (rest all : List (Option Params)) → rest ≡ [] → kinds_of kinds rows ++ told_of rest ≡ told_of all → kinds_of kinds rows ≡ told_of all
rows_end kinds rows rest all none e = sym (nothing_after (kinds_of kinds rows)) ∙ ap (λ r. kinds_of kinds rows ++ told_of r) (sym none) ∙ e

-- the number of a receiver is that of its kind
pub receiver_is : (t : ℕ) (kinds : List Kind) (read_only : Bool) → slice_get (numbered t kinds) (receiver_number read_only) ≡ Some (receiver t read_only)
receiver_is t kinds false = refl
receiver_is t kinds true = refl

-- ---- rows of several lists of functions

kept_tables : (old new : List Kind) → Keeps old new → (tables : List Rows) (rest : List (List (Option (List (Option Kind))))) (all : List (List (Option Params)))
    → map (kinds_of old) tables ++ rest ≡ map told_of all → map (kinds_of new) tables ≡ map (kinds_of old) tables
kept_tables old new keeps [] rest all e = refl
kept_tables old new keeps (rows ∷ tables) rest [] e = cc
kept_tables old new keeps (rows ∷ tables) rest (params ∷ all) e =
    let here : kinds_of old rows ≡ told_of params = cc in
    let there : map (kinds_of old) tables ++ rest ≡ map told_of all = cc in
    λ i. kept_rows old new keeps rows [] params (nothing_after (kinds_of old rows) ∙ here) i ∷ kept_tables old new keeps tables rest all there i

-- the rows of one list more
table_added : (old new : List Kind) → Keeps old new → (tables new_tables : List Rows) (rows : Rows) (told : List (Option (List (Option Kind)))) (rest : List (List (Option (List (Option Kind)))))
    (all : List (List (Option Params))) → map (kinds_of old) tables ++ told ∷ rest ≡ map told_of all → kinds_of new rows ≡ told → new_tables ≡ tables ++ rows ∷ []
    → map (kinds_of new) new_tables ++ rest ≡ map told_of all
table_added old new keeps tables new_tables rows told rest all e says pushed =
    let before : map (kinds_of new) tables ≡ map (kinds_of old) tables = kept_tables old new keeps tables (told ∷ rest) all e in
    ap (λ r. map (kinds_of new) r ++ rest) pushed
    ∙ ap (λ r. r ++ rest) (map-append (kinds_of new) tables (rows ∷ []))
    ∙ one_after (map (kinds_of new) tables) (kinds_of new rows) rest
    ∙ (λ i. before i ++ says i ∷ rest)
    ∙ e

wanted_is : (t : ℕ) (fs : List Family) → rows_wanted t fs ≡ map told_of (map (λ (f : Family). method_params t f.methods) fs)
wanted_is t [] = refl
wanted_is t (f ∷ fs) = ap (λ r. told_of (method_params t f.methods) ∷ r) (wanted_is t fs)

-- the rows of a family's methods more
pub family_added : (t : ℕ) (old new : List Kind) → Keeps (numbered t old) (numbered t new) → (tables new_tables : List Rows) (rows : Rows) (f : Family) (rest all : List Family)
    → map (kinds_of (numbered t old)) tables ++ rows_wanted t (f ∷ rest) ≡ rows_wanted t all → kinds_of (numbered t new) rows ≡ told_of (method_params t f.methods)
    → new_tables ≡ tables ++ rows ∷ [] → map (kinds_of (numbered t new)) new_tables ++ rows_wanted t rest ≡ rows_wanted t all
family_added t old new keeps tables new_tables rows f rest all e says pushed =
    table_added (numbered t old) (numbered t new) keeps tables new_tables rows (told_of (method_params t f.methods)) (rows_wanted t rest)
    (map (λ (g : Family). method_params t g.methods) all) (e ∙ wanted_is t all) says pushed
    ∙ sym (wanted_is t all)

pub families_end : (t : ℕ) (kinds : List Kind) (tables : List Rows) (rest all : List Family) → rest ≡ [] → map (kinds_of (numbered t kinds)) tables ++ rows_wanted t rest ≡ rows_wanted t all
    → map (kinds_of (numbered t kinds)) tables ≡ rows_wanted t all
families_end t kinds tables rest all none e =
    sym (nothing_after (map (kinds_of (numbered t kinds)) tables)) ∙ ap (λ r. map (kinds_of (numbered t kinds)) tables ++ rows_wanted t r) (sym none) ∙ e

-- ---- a loop over a list

pub left_here : {A : Type 0} → (xs : List A) (i : ℕ) (x : A) → i < length xs → x ≡ get_or xs i x → drop i xs ≡ x ∷ drop (i + 1) xs
left_here xs i x lt is = drop_more xs i x lt ∙ ap (λ y. y ∷ drop (i + 1) xs) (sym is)

-- ---- numbers that are kept

pub keeps_itself : (kinds : List Kind) → Keeps kinds kinds
keeps_itself kinds = λ n k e. e

pub keeps_further : (old middle new : List Kind) → Keeps old middle → Keeps middle new → Keeps old new
keeps_further old middle new first second = λ n k e. second n k (first n k e)

get_front : (xs ys : List Kind) (n : ℕ) (k : Kind) → slice_get xs n ≡ Some k → slice_get (xs ++ ys) n ≡ Some k
get_front [] ys n k e = cc
get_front (x ∷ xs) ys zero k e = e
get_front (x ∷ xs) ys (suc n) k e = get_front xs ys n k e

-- a kind more at the end
pub keeps_more : (t : ℕ) (kinds : List Kind) (k : Kind) → Keeps (numbered t kinds) (numbered t (kinds ++ k ∷ []))
keeps_more t kinds k = λ n q e. get_front (numbered t kinds) (k ∷ []) n q e

get_last : (xs : List Kind) (k : Kind) → slice_get (xs ++ k ∷ []) (length xs) ≡ Some k
get_last [] k = refl
get_last (x ∷ xs) k = get_last xs k

-- the number of a place stands two further on
pub behind_receivers : (t : ℕ) (kinds : List Kind) (n place : ℕ) → n ≡ place + 2 → slice_get (numbered t kinds) n ≡ slice_get kinds place
behind_receivers t kinds n place e =
    let two : n ≡ suc (suc place) = omega (arith, e) in
    ap (slice_get (numbered t kinds)) two

pub last_is : (t : ℕ) (kinds : List Kind) (k : Kind) (n : ℕ) → n ≡ length kinds + 2 → slice_get (numbered t (kinds ++ k ∷ [])) n ≡ Some k
last_is t kinds k n e = behind_receivers t (kinds ++ k ∷ []) n (length kinds) e ∙ get_last kinds k

-- ---- rows that lie together

at_front : (numbers more : List ℕ) (start count : ℕ) → start + count ≤ length numbers → take count (drop start (numbers ++ more)) ≡ take count (drop start numbers)
at_front numbers more start zero within = refl
at_front [] more zero (suc count) within = absurd (omega (arith, within))
at_front [] more (suc start) (suc count) within = absurd (omega (arith, within))
at_front (x ∷ numbers) more zero (suc count) within = ap (λ r. x ∷ r) (at_front numbers more zero count (omega (arith, within)))
at_front (x ∷ numbers) more (suc start) (suc count) within = at_front numbers more start (suc count) (omega (arith, within))

at_end : (numbers more : List ℕ) → take (length more) (drop (length numbers) (numbers ++ more)) ≡ more
at_end [] [] = refl
at_end [] (x ∷ more) = ap (λ r. x ∷ r) (at_end [] more)
at_end (x ∷ numbers) more = at_end numbers more

within_rest : (numbers : List ℕ) (o : Option Span) (spans : List (Option Span)) → AreWithin numbers (o ∷ spans) → AreWithin numbers spans
within_rest numbers o spans within = λ n s e. within (suc n) s e

front_row : (numbers more : List ℕ) (o : Option Span) → ((s : Span) → o ≡ Some s → s.start + s.count ≤ length numbers) → option_map (at_span (numbers ++ more)) o ≡ option_map (at_span numbers) o
front_row numbers more None within = refl
front_row numbers more (Some s) within = ap Some (at_front numbers more s.start s.count (within s refl))

front_rows : (numbers more : List ℕ) (spans : List (Option Span)) → AreWithin numbers spans → rows_of (numbers ++ more) spans ≡ rows_of numbers spans
front_rows numbers more [] within = refl
front_rows numbers more (o ∷ spans) within =
    λ i. front_row numbers more o (λ s e. within zero s (ap Some e)) i ∷ front_rows numbers more spans (within_rest numbers o spans within) i

-- a row is put in at the end
pub rows_more : (numbers row : List ℕ) (spans : List (Option Span)) (s : Span) → AreWithin numbers spans → s.start ≡ length numbers → s.count ≡ length row
    → rows_of (numbers ++ row) (spans ++ Some s ∷ []) ≡ rows_of numbers spans ++ Some row ∷ []
rows_more numbers row spans s within start count =
    let last : at_span (numbers ++ row) s ≡ row = (λ i. take (count i) (drop (start i) (numbers ++ row))) ∙ at_end numbers row in
    map-append (option_map (at_span (numbers ++ row))) spans (Some s ∷ [])
    ∙ (λ i. front_rows numbers row spans within i ++ Some (last i) ∷ [])

pub within_more : (numbers row : List ℕ) (spans : List (Option Span)) (s : Span) → AreWithin numbers spans → s.start ≡ length numbers → s.count ≡ length row
    → (n : ℕ) (t : Span) → slice_get (spans ++ Some s ∷ []) n ≡ Some (Some t) → t.start + t.count ≤ length (numbers ++ row)
within_more numbers row [] s within start count zero t e =
    let same : s ≡ t = cc in
    let many : length (numbers ++ row) ≡ length numbers + length row = length-append numbers row in
    let fits : s.start + s.count ≤ length (numbers ++ row) = omega (arith, many, start, count) in
    subst (λ (x : Span). x.start + x.count ≤ length (numbers ++ row)) same fits
within_more numbers row [] s within start count (suc n) t e = cc
within_more numbers row (o ∷ spans) s within start count zero t e =
    let many : length (numbers ++ row) ≡ length numbers + length row = length-append numbers row in
    let fits : t.start + t.count ≤ length numbers = within zero t e in
    omega (arith, many, fits)
within_more numbers row (o ∷ spans) s within start count (suc n) t e = within_more numbers row spans s (within_rest numbers o spans within) start count n t e

pub within_none : (numbers : List ℕ) (spans : List (Option Span)) → AreWithin numbers spans → (n : ℕ) (t : Span) → slice_get (spans ++ None ∷ []) n ≡ Some (Some t) → t.start + t.count ≤ length numbers
within_none numbers [] within zero t e = cc
within_none numbers [] within (suc n) t e = cc
within_none numbers (o ∷ spans) within zero t e = within zero t e
within_none numbers (o ∷ spans) within (suc n) t e = within_none numbers spans (within_rest numbers o spans within) n t e

pub row_is : (numbers : List ℕ) (spans : List (Option Span)) (n : ℕ) (o : Option Span) → slice_get spans n ≡ Some o → row_at (rows_of numbers spans) n ≡ option_map (at_span numbers) o
row_is numbers spans n o e = ap option_flatten (slice_get-map (option_map (at_span numbers)) spans n ∙ ap (option_map (option_map (at_span numbers))) e)

pub no_row : (numbers : List ℕ) (spans : List (Option Span)) (n : ℕ) → slice_get spans n ≡ None → row_at (rows_of numbers spans) n ≡ None
no_row numbers spans n e = ap option_flatten (slice_get-map (option_map (at_span numbers)) spans n ∙ ap (option_map (option_map (at_span numbers))) e)

-- ---- what a row says

-- the row at a place is that of what stands there
pub says_in : (kinds : List Kind) (rows : Rows) (params : List (Option Params)) (n : ℕ) → kinds_of kinds rows ≡ told_of params
    → option_map (kinds_at kinds) (row_at rows n) ≡ option_map (map Some) (option_flatten (slice_get params n))
says_in kinds rows params n are = by (slice_get rows n) (slice_get params n) same
  where
    same : option_map (option_map (kinds_at kinds)) (slice_get rows n) ≡ option_map (option_map (map Some)) (slice_get params n)
    same = sym (slice_get-map (option_map (kinds_at kinds)) rows n) ∙ ap (λ xs. slice_get xs n) are ∙ slice_get-map (option_map (map Some)) params n

    by : (row : Option (Option (List ℕ))) (o : Option (Option Params)) → option_map (option_map (kinds_at kinds)) row ≡ option_map (option_map (map Some)) o
        → option_map (kinds_at kinds) (option_flatten row) ≡ option_map (map Some) (option_flatten o)
    by None None e = refl
    by None (Some o) e = cc
    by (Some row) None e = cc
    by (Some row) (Some o) e = same_Some (option_map (kinds_at kinds) row) (option_map (map Some) o) e

-- the parameters of what stands at a place
params_at : {A : Type 0} (f : A → Params) (xs : List A) (n : ℕ) → option_flatten (slice_get (map (λ (x : A). Some (f x)) xs) n) ≡ option_map f (slice_get xs n)
params_at f [] n = refl
params_at f (x ∷ xs) zero = refl
params_at f (x ∷ xs) (suc n) = params_at f xs n

-- a row at a place is that of the function there
pub says_function : (t : ℕ) (kinds : List Kind) (rows : Rows) (fs : List ScriptFunction) (n : ℕ) (row : Option (List ℕ)) → AreRows kinds rows (λ u. function_params fs) → row ≡ row_at rows n
    → Says t kinds row (option_map parameters_of (slice_get fs n))
says_function t kinds rows fs n row are is =
    ap (option_map (kinds_at (numbered t kinds))) is
    ∙ says_in (numbered t kinds) rows (function_params fs) n (are t)
    ∙ ap (option_map (map Some)) (params_at parameters_of fs n)

-- that of a method, its receiver in front
pub says_method : (t : ℕ) (kinds : List Kind) (rows : Rows) (ms : List ScriptMethod) (n : ℕ) (row : Option (List ℕ)) → kinds_of (numbered t kinds) rows ≡ told_of (method_params t ms)
    → row ≡ row_at rows n → Says t kinds row (option_map (params_on t) (slice_get ms n))
says_method t kinds rows ms n row are is =
    ap (option_map (kinds_at (numbered t kinds))) is
    ∙ says_in (numbered t kinds) rows (method_params t ms) n are
    ∙ ap (option_map (map Some)) (params_at (params_on t) ms n)
