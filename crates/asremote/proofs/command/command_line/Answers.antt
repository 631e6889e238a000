use Rattle.std.proofs.Common.{◌≡◌, ◌∙◌, ap, ap₂, codes, Some, true, false}
use Rattle.std.proofs.lemmas.Result.{IfOk-weaker}
use Rattle.clap.specs.Words.{Rule, app_of, rule_of, with_rule, new_app}
use Rattle.clap.specs.Simple.{app_of_fields}
use Rattle.clap.specs.declared.builder.arg.Arg.{Arg}
use Rattle.clap.specs.declared.builder.action.ArgAction.TheVariants.{SetTrue}
use Rattle.asremote.specs.Options.{with_version, profile_rule, drivers_rule, budget_rule, echo_rule}
use Rattle.asremote.proofs.command.command_line.Goals as goal

pub returns : goal.returns
returns c =
    let profile_is : rule_of c.help.result ≡ profile_rule =
    ap rule_of c.help.ensures ∙ ap rule_of c.required.ensures
    ∙ ap (λ (a : Arg). rule_of (record a { required = true })) c.long.ensures
    ∙ ap (λ (r : Rule). record r { long = Some (codes "profile"); required = true }) c.new-2.ensures.rule in
    let profile_local : c.help.result.global ≡ false =
    ap (λ (a : Arg). a.global) c.help.ensures ∙ ap (λ (a : Arg). a.global) c.required.ensures ∙ ap (λ (a : Arg). a.global) c.long.ensures ∙ c.new-2.ensures.optional.1 in
    let drivers_is : rule_of c.help-2.result ≡ drivers_rule =
    ap rule_of c.help-2.ensures ∙ ap rule_of c.long-2.ensures ∙ ap (λ (r : Rule). record r { long = Some (codes "drivers") }) c.new-3.ensures.rule in
    let drivers_local : c.help-2.result.global ≡ false =
    ap (λ (a : Arg). a.global) c.help-2.ensures ∙ ap (λ (a : Arg). a.global) c.long-2.ensures ∙ c.new-3.ensures.optional.1 in
    let budget_is : rule_of c.help-3.result ≡ budget_rule =
    ap rule_of c.help-3.ensures ∙ ap rule_of c.long-3.ensures ∙ ap (λ (r : Rule). record r { long = Some (codes "budget") }) c.new-4.ensures.rule in
    let budget_local : c.help-3.result.global ≡ false =
    ap (λ (a : Arg). a.global) c.help-3.ensures ∙ ap (λ (a : Arg). a.global) c.long-3.ensures ∙ c.new-4.ensures.optional.1 in
    let echo_is : rule_of c.help-4.result ≡ echo_rule =
    ap rule_of c.help-4.ensures ∙ ap rule_of c.action.ensures
    ∙ ap (λ (a : Arg). rule_of (record a { action = Some SetTrue })) c.long-4.ensures
    ∙ ap (λ (r : Rule). record r { long = Some (codes "echo"); action = Some SetTrue }) c.new-5.ensures.rule in
    let echo_local : c.help-4.result.global ≡ false =
    ap (λ (a : Arg). a.global) c.help-4.ensures ∙ ap (λ (a : Arg). a.global) c.action.ensures ∙ ap (λ (a : Arg). a.global) c.long-4.ensures ∙ c.new-5.ensures.optional.1 in
    let told : app_of c.after_help.result ≡ with_version (new_app (codes "asremote")) =
    ap app_of_fields c.after_help.ensures ∙ ap app_of_fields c.about.ensures ∙ ap app_of_fields c.version.ensures ∙ ap with_version c.new.ensures.app in
    let first : app_of c.in_ok-arg.field-0 ≡ with_rule (with_version (new_app (codes "asremote"))) profile_rule =
    c.in_ok-arg.ensures.shape profile_local ∙ ap₂ with_rule told profile_is in
    let second : app_of c.in_ok-arg-2.field-0 ≡ with_rule (with_rule (with_version (new_app (codes "asremote"))) profile_rule) drivers_rule =
    c.in_ok-arg-2.ensures.shape drivers_local ∙ ap₂ with_rule first drivers_is in
    let third : app_of c.in_ok-arg-3.field-0 ≡ with_rule (with_rule (with_rule (with_version (new_app (codes "asremote"))) profile_rule) drivers_rule) budget_rule =
    c.in_ok-arg-3.ensures.shape budget_local ∙ ap₂ with_rule second budget_is in
    record { exact = IfOk-weaker c.arg-4.result _ _ (λ d added. added.shape echo_local ∙ ap₂ with_rule third echo_is) c.arg-4.ensures }
