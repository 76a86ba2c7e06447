mod GeneratorAccepted
pub mod GeneratorDeclared
mod GeneratorExamples
pub mod GeneratorLemmas
pub mod GeneratorLines
pub mod GeneratorNames
pub mod GeneratorPlain
pub mod GeneratorReads
pub mod GeneratorStanding
pub mod GeneratorSteps
pub mod GeneratorTokens
