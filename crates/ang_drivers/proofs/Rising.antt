-- The keys of a map rise after each call.
use Rattle.std.specs.Prelude.{ℕ, ℤ, T}
use Rattle.std.specs.Ordering.{int_cmp}
use Rattle.std.specs.FinMap.{is_sorted}
use Rattle.std.proofs.Common.{sym, subst, inl, inr}
use Rattle.ang_host.specs.declared.answer.Answer.{Answer}
use Rattle.ang_drivers.specs.declared.pairs.MapCall.{MapCall}
use Rattle.ang_drivers.specs.declared.pairs.MapCall.TheVariants.{Contains, Get, Set, Length, Remove, Clear, Key, Unknown}
use Rattle.ang_drivers.specs.IntMap.{Pairs, MapDoes, Sets}
use Rattle.ang_drivers.proofs.Pairing.{put_rises, without_rises}

abbrev Rise : Pairs → Type 0
Rise es = T (is_sorted int_cmp es)

set_rises : (bound : ℕ) (es : Pairs) (k z : ℤ) (a : Answer) (ns : Pairs) → Rise es → Sets bound es k z a ns → Rise ns
set_rises bound es k z a ns s (inl h) = subst Rise (sym h.2) (put_rises es k z s)
set_rises bound es k z a ns s (inr h) = subst Rise (sym h.2) s

pub keys_rise : (bound : ℕ) (es ns : Pairs) (m : MapCall) (a : Answer) → T (is_sorted int_cmp es) → MapDoes bound es m a ns → T (is_sorted int_cmp ns)
keys_rise bound es ns (Contains k) a s h = subst Rise (sym h.1) s
keys_rise bound es ns (Get k) a s h = subst Rise (sym h.1) s
keys_rise bound es ns (Set k z) a s h = set_rises bound es k z a ns s h
keys_rise bound es ns Length a s h = subst Rise (sym h.1) s
keys_rise bound es ns (Remove k) a s h = subst Rise (sym h.1) (without_rises es k s)
keys_rise bound es ns Clear a s h = subst Rise (sym h.1) tt
keys_rise bound es ns (Key i) a s h = subst Rise (sym h.1) s
keys_rise bound es ns Unknown a s h = subst Rise (sym h.1) s
