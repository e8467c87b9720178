pub mod OctetLemmas
pub mod BitLemmas
pub mod Pkcs1Lemmas
pub mod PssLemmas
pub mod DataLemmas
pub mod OpenedLemmas
pub mod TestLemmas
